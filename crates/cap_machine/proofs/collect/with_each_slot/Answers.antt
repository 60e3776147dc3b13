use Rattle.cap_machine.proofs.Common.{Cap, OfCap, arith, false, get_or, slice_get-get_or, ℕ}
use Rattle.cap_machine.proofs.Gathering.{first_more, all_first}
use Rattle.cap_machine.proofs.collect.with_each_slot.Goals as goal

no_slot : ℕ × Cap
no_slot = (0, record { object = 0; rights = record { read = false; write = false; grant = false; reply = false }; badge = 0 })

pub loop-slot-preserved : goal.loop-slot-preserved
unfolding no_slot
loop-slot-preserved c =
    first_more (λ place (slot : ℕ × Cap). OfCap c.args.spec.now c.args.labels.now.by_object c.args.from slot.1) c.args.slots.now
    c.loop-slot.slot-index (get_or c.args.slots.now c.loop-slot.slot-index no_slot)
    _ _ _ (slice_get-get_or c.args.slots.now c.loop-slot.slot-index no_slot c.loop-slot-test.true) c.loop-slot.invariant
    c.in_ok-edges.ensures

pub returns : goal.returns
returns c = all_first (λ place (slot : ℕ × Cap). OfCap c.args.spec.now c.args.labels.now.by_object c.args.from slot.1)
    c.args.slots.now c.loop-slot.slot-index _ _ (let t = c.loop-slot-test.false in omega arith) c.loop-slot.invariant
