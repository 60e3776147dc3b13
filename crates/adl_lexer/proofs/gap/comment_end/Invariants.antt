use Rattle.adl_lexer.proofs.Common.{after_close, length, ◌≡◌}
use Rattle.adl_lexer.proofs.gap.comment_end.Given as goal

abbrev pub invariant-comment : goal.invariant-comment
invariant-comment l = after_close l.rest ≡ after_close l.bytes

abbrev pub decreases-comment : goal.decreases-comment
decreases-comment l = length l.rest
