use Rattle.capdl_read.proofs.Common.{SlotLine, arith, noted_each, slot_off, slot_said, spread_found, unknown, ◌∙◌}
use Rattle.capdl_read.proofs.Tables.{said_each}
use Rattle.capdl_read.proofs.held.slots_held.Goals as goal

pub loop-slot-preserved : goal.loop-slot-preserved
loop-slot-preserved c = record {
  unknown = noted_each (λ (s : SlotLine). unknown (spread_found c.args.known.now) s.object) _ _ c.args.slots.now
      c.loop-slot.slot-index c.slot-item.result (omega arith) c.slot-item.is c.in_ok-slot_held.ensures.unknown
      ∙ c.loop-slot.invariant.unknown;
  kind = noted_each (slot_off c.args.arch (spread_found c.args.known.now) c.args.holder.id.now c.args.holder.known) _ _
      c.args.slots.now c.loop-slot.slot-index c.slot-item.result (omega arith) c.slot-item.is c.in_ok-slot_held.ensures.kind
      ∙ c.loop-slot.invariant.kind;
  said = said_each (slot_said (spread_found c.args.known.now)) c.loop-slot.held _ _ c.args.slots.now c.loop-slot.slot-index
      c.slot-item.result (omega arith) c.slot-item.is c.in_ok-slot_held.ensures.slot c.in_ok-push.ensures.ok
      ∙ c.loop-slot.invariant.said;
}
