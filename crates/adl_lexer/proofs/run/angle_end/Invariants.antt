use Rattle.adl_lexer.proofs.Common.{after_run, angle_bytes, length, ◌≡◌}
use Rattle.adl_lexer.proofs.run.angle_end.Given as goal

abbrev pub invariant-run : goal.invariant-run
invariant-run l = after_run angle_bytes l.rest ≡ after_run angle_bytes l.bytes

abbrev pub decreases-run : goal.decreases-run
decreases-run l = length l.rest
