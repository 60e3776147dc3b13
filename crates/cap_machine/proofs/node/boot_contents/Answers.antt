use Rattle.cap_machine.proofs.Common.{Cap, ℕ}
use Rattle.std.specs.Prelude.{false}
use Rattle.cap_machine.proofs.NodeSlots.{slots_more}
use Rattle.cap_machine.proofs.node.boot_contents.Goals as goal

no_slot : ℕ × Cap
no_slot = (0, record { object = 0; rights = record { read = false; write = false; grant = false; reply = false }; badge = 0 })

pub loop-slot-preserved : goal.loop-slot-preserved
unfolding no_slot
loop-slot-preserved c = (
  slots_more c.args.slots.now c.loop-slot.slot-index no_slot _ _ c.requires c.loop-slot-test.true c.loop-slot.invariant.0
      c.in_ok-insert.ensures.entries,
  c.in_ok-insert.ensures.ordered,
)
