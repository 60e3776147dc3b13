use Rattle.adl_lexer.proofs.Common.{after_run, length, line_bytes, ◌≡◌}
use Rattle.adl_lexer.proofs.run.line_end.Given as goal

abbrev pub invariant-run : goal.invariant-run
invariant-run l = after_run line_bytes l.rest ≡ after_run line_bytes l.bytes

abbrev pub decreases-run : goal.decreases-run
decreases-run l = length l.rest
