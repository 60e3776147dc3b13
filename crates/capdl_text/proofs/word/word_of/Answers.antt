use Rattle.capdl_text.proofs.Common.{sym, ◌∙◌}
use Rattle.capdl_text.proofs.NumberedWords.{is_numbered}
use Rattle.capdl_text.proofs.word.word_of.Goals as goal

pub returns-then-ends_in_digit : goal.returns-then-ends_in_digit
returns-then-ends_in_digit c = c.numbered_word.ensures
    ∙ sym (is_numbered c.args.text.now (sym c.ends_in_digit.ensures ∙ c.if-ends_in_digit.true))
