use Rattle.cap_machine.proofs.Common.{Adds, Content, OfContent, length, ℕ}
use Rattle.cap_machine.proofs.Gathering.{OfFirst}
use Rattle.cap_machine.proofs.node.Node.with_edges.Given as goal

abbrev pub invariant-loop-content : goal.invariant-loop-content
invariant-loop-content l = Adds (OfFirst (λ place (slot : ℕ × Content). OfContent l.spec l.labels.by_object l.from slot.1)
    l.self.slots (length l.yielded)) l.initial.edges.items l.edges.items
