use Rattle.cap_machine.proofs.Common.{Adds, Node, OfNode, label_of}
use Rattle.cap_machine.proofs.Gathering.{OfFirst}
use Rattle.cap_machine.proofs.edges.with_nodes.Given as goal

abbrev pub invariant-loop-place : goal.invariant-loop-place
invariant-loop-place l = Adds (OfFirst (λ c (node : Node). OfNode l.spec l.labels.by_object (label_of l.labels.by_object c) node)
    l.nodes l.place) l.initial.edges.items l.edges.items
