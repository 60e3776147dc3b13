use Rattle.cap_audit.proofs.Common.{Made, OfDeed, OfDeeds, OfSome, Pick, Wanted, ap, filter_map, held_by, pick_of, ◌∙◌}
use Rattle.cap_audit.proofs.Gaining.{gains_by}
use Rattle.cap_audit.proofs.Picking.{deeds_of_picks, owns_all}
use Rattle.cap_audit.proofs.making.Making.act_at.Goals as goal

pub act_from_each-requires-clause-own : goal.act_from_each-requires-clause-own
act_from_each-requires-clause-own c =
    let m : Made = c.args.self.now in
    owns_all m.spec m.labels m.found c.args.deed c.args.node c.as_slice.result.now c.as_slice-2.result.now
    (c.as_slice.ensures.value
    ∙ (c.in_ok-froms.ensures ∙ ap (λ (w : Wanted). filter_map (pick_of m.spec m.found w) (held_by m.found c.args.node))
    c.wanted_from.ensures))
    (c.as_slice-2.ensures.value
    ∙ (c.in_ok-tos.ensures ∙ ap (λ (w : Wanted). filter_map (pick_of m.spec m.found w) (held_by m.found c.args.node))
    c.wanted_to.ensures)) c.args.t c.requires.root

pub returns : goal.returns
returns c =
    let m : Made = c.args.self.now in
    gains_by (OfSome (λ (from : Pick). OfSome (λ (to : Pick). OfDeed m.spec m.labels c.args.deed from.cap to.cap)
    c.as_slice-2.result.now) c.as_slice.result.now)
    (OfDeeds m.spec m.labels m.found c.args.deed c.args.node)
    (deeds_of_picks m.spec m.labels m.found c.args.deed c.args.node c.as_slice.result.now c.as_slice-2.result.now
    (c.as_slice.ensures.value
    ∙ (c.in_ok-froms.ensures ∙ ap (λ (w : Wanted). filter_map (pick_of m.spec m.found w) (held_by m.found c.args.node))
    c.wanted_from.ensures))
    (c.as_slice-2.ensures.value
    ∙ (c.in_ok-tos.ensures ∙ ap (λ (w : Wanted). filter_map (pick_of m.spec m.found w) (held_by m.found c.args.node))
    c.wanted_to.ensures)))
    m c.act_from_each.new.self c.in_ok-act_from_each.ensures
