use Rattle.adl_names.proofs.Common.{ap, noted, repeats, ◌∙◌}
use Rattle.adl_names.proofs.FewRepeated.{declared_words}
use Rattle.adl_names.specs.Tables.{words_of}
use Rattle.adl_names.proofs.tables.declared_of.Goals as goal

pub returns-then-are_few-clause-noted : goal.returns-then-are_few-clause-noted
returns-then-are_few-clause-noted c =
    c.note_few.ensures ∙ ap (λ z. noted c.args.first.now (repeats z)) (declared_words c.as_slice-members.result.now)
    ∙ ap (λ z. noted c.args.first.now (repeats (words_of z))) c.as_slice-members.ensures
