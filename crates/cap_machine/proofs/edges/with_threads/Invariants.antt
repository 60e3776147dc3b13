use Rattle.cap_machine.proofs.Common.{Adds, OfThread, ThreadState, label_of}
use Rattle.cap_machine.proofs.Gathering.{OfFirst}
use Rattle.cap_machine.proofs.edges.with_threads.Given as goal

abbrev pub invariant-loop-place : goal.invariant-loop-place
invariant-loop-place l =
    Adds (OfFirst (λ t (thread : ThreadState). OfThread l.labels.by_object (label_of l.labels.by_object t) thread) l.threads
    l.place) l.initial.edges.items l.edges.items
