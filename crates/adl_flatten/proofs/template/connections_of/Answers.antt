use Rattle.adl_flatten.proofs.TemplateCommon.{All, All-same, Body, List, Part, ap, body, connections_by, gather_turn, get_or, map, own_connections, read_place, subst, sym, template_connections, ◌++◌, ◌+◌, ◌<◌, ◌^◌, ◌∙◌, ◌≡◌}
use Rattle.adl_flatten.proofs.Bounds.{connections_below}
use Rattle.adl_flatten.proofs.Filling.{IsPlaced, all_inside, is_placed, wires_placed}
use Rattle.adl_flatten.specs.AreTemplates.{IsLedInside}
use Rattle.adl_flatten.specs.Templates.{Connected, led_wire_by}
use Rattle.adl_meaning.proofs.Prelude.{All-get_or}
use Rattle.adl_program.specs.LedEnds.{LedEnd, LedWire}
use Rattle.adl_program.specs.declared.part.PartAt.{PartAt}
use Rattle.adl_flatten.proofs.template.connections_of.Goals.{After-as_slice-inner}
use Rattle.adl_flatten.proofs.template.connections_of.Goals as goal

here : (c : After-as_slice-inner) → (let at : PartAt = record { number = c.loop-i.i; kind = c.part-item.result.kind } in
    IsPlaced c.args.program.now c.args.number c.args.all.now c.args.before.now at)
here c =
    is_placed c.args.program.now c.args.number c.args.all.now c.args.before.now c.requires.inner c.requires.before c.loop-i.i
    c.part-item.result
    (read_place (body c.args.program.now c.args.number).parts c.parts-part-items.result.now c.loop-i.i c.part-item.result
    (c.parts-part-items.ensures ∙ ap (λ (b : Body). b.parts) c.body.ensures) c.loop-i-test.true c.part-item.is)

connections : (c : After-as_slice-inner) → c.as_slice-inner.result.now ≡ template_connections c.args.program.now
    c.part-item.result.kind
connections c =
    c.as_slice-inner.ensures.value ∙ ap (λ m. (get_or c.args.all.now m c.index-all-part.result).connections.items)
    (ap (λ (x : Part). x.kind) c.part.view_is)
    ∙ ((here c).inside.template c.index-all-part.result).connections

pub loop-wire-init : goal.loop-wire-init
loop-wire-init c =
    let placed = led_wire_by c.args.program.now c.args.before.now in
    ap (λ (xs : List Connected). xs ++ map placed c.wires-wires.result.now) c.in_ok-connections.ensures.items
    ∙ ap (map placed) c.wires-wires.ensures
    ∙ wires_placed c.args.program.now c.args.number c.args.all.now c.args.before.now c.requires.inner c.requires.before

pub placed_end-requires-clause-inside : goal.placed_end-requires-clause-inside
placed_end-requires-clause-inside c =
    let P : LedEnd → Type 0 = IsLedInside c.args.program.now c.args.all.now c.args.before.now in
    let Q : LedWire → Type 0 = λ x. All P x.ends in
    let wires = All-same Q _ _ c.wires-wires.ensures (all_inside c.args.program.now c.args.number c.args.all.now c.args.before.now
    c.requires.inner c.requires.before) in
    let item = All-get_or Q _ c.loop-wire.wire-index c.wire-item.result c.loop-wire-test.true wires in
    let ends = subst Q (sym c.wire.view_is) (subst Q (sym c.wire-item.is) item) in
    subst P (sym c.end-item.is) (All-get_or P _ c.loop-end.end-index c.end-item.result c.loop-end-test.true
    (All-same P _ _ c.as_slice-end-items.ensures.value ends))

pub place_connections-requires : goal.place_connections-requires
place_connections-requires c =
    let d = (goal.at.place_connections-requires c).After-as_slice-inner in
    let before = get_or c.args.before.now c.loop-i.i 0 in
    All-same (λ i. All (λ e. before + e.leaf < 2 ^ 32) i.ends) _ _ (connections d)
    (connections_below c.args.program.now c.part-item.result.kind before (2 ^ 32) (here d).inside.room)

pub loop-i-preserved : goal.loop-i-preserved
loop-i-preserved c =
    let d = (goal.at.loop-i-preserved c).After-as_slice-inner in
    let put = simp (connections d, (here d).count) at c.in_ok-place_connections.ensures in
    gather_turn (connections_by c.args.program.now c.args.number) (body c.args.program.now c.args.number).parts
    c.parts-part-items.result.now c.loop-i.i c.part-item.result
    (own_connections c.args.program.now c.args.number) c.loop-i.connections.items _
    (c.parts-part-items.ensures ∙ ap (λ (b : Body). b.parts) c.body.ensures) c.loop-i-test.true c.part-item.is
    c.loop-i.invariant put
