use Rattle.system_spec.proofs.Common.{Domain, arith, domain_slots, refl, told, ◌+◌}
use Rattle.system_spec.proofs.MapPlaces.{first_lock_is, locks_turn, locks_within}
use Rattle.system_spec.proofs.Turning.{place_turn}
use Rattle.system_spec.proofs.map_listing.push_slots.Goals as goal

pub push_slots_of-requires-clause-first : goal.push_slots_of-requires-clause-first
push_slots_of-requires-clause-first c = first_lock_is (told c.args.tables.now) c.args.first_lock c.loop-number.number
    c.loop-number.next c.requires.first c.loop-number.invariant.next

pub push_slots_of-requires-clause-few : goal.push_slots_of-requires-clause-few
push_slots_of-requires-clause-few c =
    let t = told c.args.tables.now in
    let d = c.loop-number.number in
    let more = locks_turn t c.args.first_lock d c.loop-number.next _ c.uses_at-uses.result.now c.uses_at-uses.ensures
    (omega arith) c.loop-number.invariant.next refl in
    locks_within t c.requires.buildable.few c.args.first_lock (d + 1) _ c.requires.first more

pub loop-number-preserved : goal.loop-number-preserved
loop-number-preserved c =
    let t = told c.args.tables.now in
    let d = c.loop-number.number in
    record {
      so_far = place_turn (λ k (x : Domain). domain_slots t k) t.flat.domains d c.args.lines.now _ _ (omega arith)
          c.loop-number.invariant.so_far (λ x. c.in_ok-next.ensures.lines);
      next = locks_turn t c.args.first_lock d c.loop-number.next _ c.uses_at-uses.result.now c.uses_at-uses.ensures (omega arith)
          c.loop-number.invariant.next c.in_ok-next.ensures.next;
    }
