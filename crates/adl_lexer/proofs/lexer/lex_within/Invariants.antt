use Rattle.adl_lexer.proofs.Common.{LexesFrom, List, Reached, Token, length, ℕ, ◌++◌, ◌≤◌}
use Rattle.adl_lexer.proofs.lexer.lex_within.Given as goal

-- The tokens so far and those of the rest are those of all bytes, and what is reached from the rest is reached.
abbrev pub invariant-scan : goal.invariant-scan
invariant-scan l = record {
  told : (ts : List Token) → LexesFrom l.file (length l.bytes) l.rest ts
      → LexesFrom l.file (length l.bytes) l.bytes (l.tokens ++ ts);
  reached : (x : List ℕ) → Reached l.rest x → Reached l.bytes x;
  short : length l.rest ≤ length l.bytes;
}

abbrev pub decreases-scan : goal.decreases-scan
decreases-scan l = length l.rest
