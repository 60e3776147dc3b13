use Rattle.cert_check.proofs.Common.{BreaksBind}
use Rattle.cert_check.proofs.Search.{NoneUpTo}
use Rattle.cert_check.proofs.FirstFound.{AtFirst, second_of}
use Rattle.cert_check.proofs.copies.bind_at.Given as goal

abbrev pub invariant-loop-j : goal.invariant-loop-j
invariant-loop-j l = NoneUpTo (AtFirst (BreaksBind l.cert) l.edge) second_of l.cert l.j
