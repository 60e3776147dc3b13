use Rattle.capdl_read.proofs.Common.{SlotLine, drop, flat_map, map, noted, slot_off, slot_said, spread_found, unknown, ◌++◌, ◌≡◌}
use Rattle.capdl_read.proofs.held.slots_held.Given as goal

abbrev pub invariant-loop-slot : goal.invariant-loop-slot
invariant-loop-slot l = record {
  unknown : noted l.faults.unknown (flat_map (λ (s : SlotLine). unknown (spread_found l.known) s.object)
      (drop l.slot-index l.slots)) ≡ noted l.fn.faults.unknown
      (flat_map (λ (s : SlotLine). unknown (spread_found l.known) s.object) l.slots);
  kind : noted l.faults.kind (flat_map (slot_off l.arch (spread_found l.known) l.holder.id.now l.holder.known)
      (drop l.slot-index l.slots)) ≡ noted l.fn.faults.kind
      (flat_map (slot_off l.arch (spread_found l.known) l.holder.id.now l.holder.known) l.slots);
  said : l.held ++ map (slot_said (spread_found l.known)) (drop l.slot-index l.slots) ≡ map
      (slot_said (spread_found l.known)) l.slots;
}
