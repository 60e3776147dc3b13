use Rattle.system_spec.proofs.Common.{AreNamed, OfEnd, SlotUse, [], ap, arith, gather_turn, get_or, get_or_default, refl, slice_get-get_or, slot_line, subst, sym, told, use_cap, use_cap_at, ◌++◌, ◌+◌, ◌∙◌, ◌∷◌}
use Rattle.std.specs.Prelude.{length}
use Rattle.system_spec.proofs.MapPlaces.{lock_end}
use Rattle.system_spec.proofs.Placing.{lock_turn, lock_within}
use Rattle.system_spec.proofs.map_listing.push_slots_of.Goals as goal

pub use_object-object-requires-clause-named : goal.use_object-object-requires-clause-named
use_object-object-requires-clause-named c =
    let t = told c.args.tables.now in
    let named : AreNamed (length t.flat.connections) c.args.uses.now = subst (AreNamed (length t.flat.connections))
    (sym c.requires.uses) (c.requires.buildable.named c.args.domain) in
    named c.loop-number.number _ (slice_get-get_or c.args.uses.now c.loop-number.number (OfEnd 0 0) c.loop-number-test.true)

pub overflow_add-next : goal.overflow_add-next
overflow_add-next c =
    let t = told c.args.tables.now in
    let uses = c.args.uses.now in
    let n = c.loop-number.number in
    let below = c.loop-number-test.true in
    let more = lock_turn t c.args.domain uses n c.loop-number.next _ (get_or uses n (OfEnd 0 0)) c.requires.uses below
    (get_or_default _ _ _ _ below) c.lock_number-next.ensures c.loop-number.invariant.next in
    omega (
      arith,
      c.requires.few,
      lock_within t c.args.domain uses (n + 1) c.args.first_lock _ c.requires.uses
          c.requires.first more,
    )

pub loop-number-preserved : goal.loop-number-preserved
loop-number-preserved c =
    let t = told c.args.tables.now in
    let uses = c.args.uses.now in
    let n = c.loop-number.number in
    let u = get_or uses n (OfEnd 0 0) in
    let below = c.loop-number-test.true in
    let object = c.use_object-object.ensures ∙ ap (λ z. (use_cap_at t z u).object) c.loop-number.invariant.next in
    record {
      so_far = gather_turn (λ k (v : SlotUse). slot_line (use_cap t c.args.domain k v).object k v ∷ []) uses uses n u
          c.args.lines.now _ _ refl below (get_or_default _ _ _ _ below) c.loop-number.invariant.so_far
          (c.in_ok-push.ensures.ok ∙ ap (λ z. c.loop-number.lines ++ z ∷ []) (c.slot_line.ensures
          ∙ ap (λ z. slot_line z n u) object));
      next = lock_turn t c.args.domain uses n c.loop-number.next _ u c.requires.uses below (get_or_default _ _ _ _ below)
          c.lock_number-next.ensures c.loop-number.invariant.next;
    }

pub returns-clause-next : goal.returns-clause-next
returns-clause-next c =
    lock_end (told c.args.tables.now) c.args.domain c.args.uses.now c.loop-number.number c.args.first_lock c.loop-number.next
    c.requires.uses c.loop-number-test.false c.requires.first c.loop-number.invariant.next
