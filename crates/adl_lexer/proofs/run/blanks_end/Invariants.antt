use Rattle.adl_lexer.proofs.Common.{after_run, blanks, length, ◌≡◌}
use Rattle.adl_lexer.proofs.run.blanks_end.Given as goal

abbrev pub invariant-run : goal.invariant-run
invariant-run l = after_run blanks l.rest ≡ after_run blanks l.bytes

abbrev pub decreases-run : goal.decreases-run
decreases-run l = length l.rest
