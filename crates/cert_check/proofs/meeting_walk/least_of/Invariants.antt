use Rattle.cert_check.proofs.Walks.{Taken}
use Rattle.cert_check.proofs.meeting_walk.least_of.Given as goal

abbrev pub invariant-loop-place : goal.invariant-loop-place
invariant-loop-place l = Taken l.rule l.cert l.partners.ends.items l.met.edge l.place l.best
