use Rattle.cap_machine.proofs.Common.{Adds, Cap, OfCap, ℕ}
use Rattle.cap_machine.proofs.Gathering.{OfFirst}
use Rattle.cap_machine.proofs.collect.with_each_slot.Given as goal

abbrev pub invariant-loop-slot : goal.invariant-loop-slot
invariant-loop-slot l = Adds (OfFirst (λ place (slot : ℕ × Cap). OfCap l.spec l.labels.by_object l.from slot.1) l.slots
    l.slot-index) l.initial.edges.items l.edges.items
