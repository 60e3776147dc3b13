use Rattle.least_cert.proofs.Common.{Edge, has, take, ◌||◌, ◌≡◌}
use Rattle.least_cert.proofs.replies.with_all.Given as goal

abbrev pub invariant-loop-edge : goal.invariant-loop-edge
invariant-loop-edge l = (e : Edge) → has l.set e ≡ (has l.initial.set e || has (take l.edge-index l.edges) e)
