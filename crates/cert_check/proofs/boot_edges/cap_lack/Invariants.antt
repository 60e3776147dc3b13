use Rattle.cert_check.proofs.boot_edges.cap_lack.Given as goal
use Rattle.cert_check.proofs.LeastEdges.{NoneBelow}

abbrev pub invariant-loop-n : goal.invariant-loop-n
invariant-loop-n l = NoneBelow l.spec l.cert l.within l.from l.to l.cap l.n
