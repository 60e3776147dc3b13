use Rattle.adl_lexer.proofs.Common.{after_run, length, word_bytes, ◌≡◌}
use Rattle.adl_lexer.proofs.run.word_end.Given as goal

abbrev pub invariant-run : goal.invariant-run
invariant-run l = after_run word_bytes l.rest ≡ after_run word_bytes l.bytes

abbrev pub decreases-run : goal.decreases-run
decreases-run l = length l.rest
