use Rattle.cap_machine.proofs.Common.{Adds, Entry, OfFixed, label_of}
use Rattle.cap_machine.proofs.Gathering.{OfFirst}
use Rattle.cap_machine.proofs.edges.with_spec_parts.Given as goal

abbrev pub invariant-loop-place : goal.invariant-loop-place
invariant-loop-place l =
    Adds (OfFirst (λ place (entry : Entry). OfFixed l.spec l.labels.by_object (label_of l.labels.by_object place) entry.object)
    l.spec.entries l.place) l.initial.edges.items l.edges.items
