use Rattle.adl_lexer.proofs.Common.{sym, ◌∙◌}
use Rattle.adl_lexer.proofs.KeywordRows.{is_row}
use Rattle.adl_lexer.proofs.keyword.KeywordTable.find.Goals as goal

pub returns-then-has : goal.returns-then-has
returns-then-has g c = is_row c.args.self.now c.args.word.now c.in_ok-keyword.keyword (sym c.in_ok-keyword.ensures)
    (sym c.has.ensures ∙ c.if-has.true)
