use Rattle.system_spec.proofs.Common.{LockOf, SlotUse, [], gather, place, slot_line, take, told, use_cap, ◌++◌, ◌∷◌, ◌≡◌}
use Rattle.system_spec.proofs.map_listing.push_slots_of.Given as goal

abbrev pub invariant-loop-number : goal.invariant-loop-number
invariant-loop-number l = record {
  so_far : l.lines ≡ l.fn.lines ++ gather (λ n (u : SlotUse). slot_line (use_cap (told l.tables) l.domain n u).object n u ∷ [])
      (take l.number l.uses);
  next : l.next ≡ place (told l.tables) (LockOf l.domain l.number);
}
