use Rattle.adl_lexer.proofs.Common.{after_text, length, ◌≡◌}
use Rattle.adl_lexer.proofs.text.text_end.Given as goal

abbrev pub invariant-text : goal.invariant-text
invariant-text l = after_text l.rest ≡ after_text l.bytes

abbrev pub decreases-text : goal.decreases-text
decreases-text l = length l.rest
