use Rattle.adl_lexer.proofs.Common.{List, ap, bytes_eq, sym, ℕ, ◌∙◌}
use Rattle.adl_lexer.proofs.KeywordWords.{is_found, is_other_word}
use Rattle.adl_lexer.proofs.keyword.keyword_of.Goals as goal

pub returns-then-is_same : goal.returns-then-is_same
returns-then-is_same c =
    let word = c.args.word.now in
    sym (is_found word c.in_ok-keyword.keyword (ap (λ (w : List ℕ). bytes_eq w word) (sym c.spelling.ensures)
    ∙ sym c.is_same.ensures ∙ c.if-is_same.true))

pub returns-else-is_same : goal.returns-else-is_same
returns-else-is_same c =
    let word = c.args.word.now in
    sym (is_other_word word c.in_ok-keyword.keyword (sym c.in_ok-keyword.ensures)
    (ap (λ (w : List ℕ). bytes_eq w word) (sym c.spelling.ensures) ∙ sym c.is_same.ensures ∙ c.if-is_same.false))
