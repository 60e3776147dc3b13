use Rattle.cert_check.proofs.Common.{Some, slice_get, ℕ, ◌+◌, ◌<◌, ◌≡◌}
use Rattle.cert_check.proofs.meeting_walk.meet_too.Given as goal

abbrev pub invariant-loop-k : goal.invariant-loop-k
invariant-loop-k l = (j : ℕ) (p q : ℕ × ℕ) → j < l.k → slice_get l.ends (l.last.low + j) ≡ Some p
    → slice_get l.ends (l.met.low + j) ≡ Some q → p.1 ≡ q.1
