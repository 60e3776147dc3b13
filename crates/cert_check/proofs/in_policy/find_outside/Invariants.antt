use Rattle.cert_check.proofs.Common.{BreaksPolicy, length}
use Rattle.cert_check.proofs.Search.{NoneUpTo}
use Rattle.cert_check.proofs.FirstFound.{itself}
use Rattle.cert_check.proofs.in_policy.find_outside.Given as goal

abbrev pub invariant-loop-edge : goal.invariant-loop-edge
invariant-loop-edge l = NoneUpTo (BreaksPolicy l.policy l.cert) itself l.cert (length l.yielded)
