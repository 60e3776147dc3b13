use Rattle.cap_machine.proofs.Common.{Adds, Mapped, OfAdded}
use Rattle.cap_machine.proofs.Gathering.{OfFirst}
use Rattle.cap_machine.proofs.edges.with_mapped.Given as goal

abbrev pub invariant-loop-added : goal.invariant-loop-added
invariant-loop-added l = Adds (OfFirst (λ place (added : Mapped). OfAdded l.labels.by_object added) l.mapped l.added-index)
    l.initial.edges.items l.edges.items
