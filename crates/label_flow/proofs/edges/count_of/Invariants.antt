use Rattle.label_flow.proofs.Common.{AreBelow, take, ◌<◌}
use Rattle.label_flow.proofs.edges.count_of.Given as goal

abbrev pub invariant-loop-edge : goal.invariant-loop-edge
invariant-loop-edge l = AreBelow l.count (take l.edge-index l.edges) × (l.least < l.count)
