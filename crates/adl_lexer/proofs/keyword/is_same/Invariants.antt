use Rattle.adl_lexer.proofs.Common.{bytes_eq, length, ◌≡◌}
use Rattle.adl_lexer.proofs.keyword.is_same.Given as goal

abbrev pub invariant-same : goal.invariant-same
invariant-same l = bytes_eq l.rest l.other ≡ bytes_eq l.left l.right

abbrev pub decreases-same : goal.decreases-same
decreases-same l = length l.rest
