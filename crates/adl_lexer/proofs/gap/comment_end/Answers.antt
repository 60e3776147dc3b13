use Rattle.adl_lexer.proofs.Common.{sym, ◌∙◌}
use Rattle.adl_lexer.proofs.Skips.{closes}
use Rattle.adl_lexer.proofs.gap.comment_end.Goals as goal

pub returns-in-Some-after_slash : goal.returns-in-Some-after_slash
returns-in-Some-after_slash c =
    sym (closes c.comment.rest.now c.in-Some.behind.now c.in-Some-after_slash.after.now (sym c.in-Some.ensures)
    (sym c.in-Some-after_slash.ensures))
    ∙ c.comment.invariant
