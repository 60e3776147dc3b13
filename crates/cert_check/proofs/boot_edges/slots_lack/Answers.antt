use Rattle.cert_check.proofs.Common.{Cap, arith, get_or, length, slice_get-get_or, ℕ, ◌≡◌}
use Rattle.std.specs.Prelude.{false}
use Rattle.cert_check.proofs.boot_edges.slots_lack.Goals as goal
use Rattle.cert_check.proofs.LeastEdges.{slots_more}

nothing : ℕ × Cap
nothing = (0, record { object = 0; rights = record { read = false; write = false; grant = false; reply = false }; badge = 0 })

pub loop-slot-preserved : goal.loop-slot-preserved
unfolding nothing
loop-slot-preserved c =
    slots_more c.args.spec.now c.args.labels.now.by_object c.args.cert.now c.args.within c.args.from c.args.slots.now
    c.loop-slot.slot-index
    (get_or c.args.slots.now c.loop-slot.slot-index nothing) c.loop-slot.best c.cap_lack.result c.lesser_edge-best.result
    (slice_get-get_or c.args.slots.now c.loop-slot.slot-index nothing c.loop-slot-test.true)
    c.loop-slot.invariant (rw c.of-to.ensures at c.cap_lack.ensures) c.lesser_edge-best.ensures

pub returns : goal.returns
returns c = let end : c.loop-slot.slot-index ≡ length c.args.slots.now = omega arith in rw (← end) c.loop-slot.invariant
