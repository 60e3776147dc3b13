use Rattle.capdl_text.proofs.Common.{LexesFrom, List, Reached, Token, all_fields, length, tokens_of, ℕ, ◌++◌, ◌≡◌, ◌≤◌}
use Rattle.capdl_text.proofs.Lexemes.{IsTail}
use Rattle.capdl_text.proofs.lexer.lex.Given as goal

-- The tokens so far and those of the rest are those of all bytes, and what is reached from the rest is reached.
abbrev pub invariant-scan : goal.invariant-scan
invariant-scan l = record {
  told : (ts : List Token) → LexesFrom (length l.bytes) l.rest ts
      → LexesFrom (length l.bytes) l.bytes (tokens_of l.bytes l.lexemes ++ ts);
  reached : (x : List ℕ) → Reached l.rest x → Reached l.bytes x;
  tail : IsTail l.bytes l.rest;
  short : length l.rest ≤ length l.bytes;
  few : length l.bytes ≤ 4294967295;
  table : l.fields ≡ all_fields;
}

abbrev pub decreases-scan : goal.decreases-scan
decreases-scan l = length l.rest
