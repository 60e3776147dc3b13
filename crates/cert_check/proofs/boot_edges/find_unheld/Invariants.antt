use Rattle.cert_check.proofs.Common.{Finds}
use Rattle.cert_check.proofs.Unheld.{LackBelow}
use Rattle.cert_check.proofs.boot_edges.find_unheld.Given as goal

abbrev pub invariant-loop-place : goal.invariant-loop-place
invariant-loop-place l = Finds (LackBelow l.spec l.labels.by_object l.cert l.place) l.best
