use Rattle.cap_machine.proofs.Common.{Adds, AsyncSend, OfLink, OfOption, Option, label_of, ℕ}
use Rattle.cap_machine.proofs.Gathering.{OfFirst}
use Rattle.cap_machine.proofs.edges.with_irqs.Given as goal

abbrev pub invariant-loop-place : goal.invariant-loop-place
invariant-loop-place l =
    Adds (OfFirst (λ d (bound : Option ℕ). OfOption (OfLink l.labels.by_object (label_of l.labels.by_object d) AsyncSend) bound)
    l.irqs l.place) l.initial.edges.items l.edges.items
