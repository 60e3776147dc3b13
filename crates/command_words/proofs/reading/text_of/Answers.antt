use Rattle.command_words.proofs.Common.{Some, ap, first_value-rows, found_of, sym, ◌∙◌}
use Rattle.command_words.proofs.reading.text_of.Goals as goal

pub returns-in_ok-new-in-Some : goal.returns-in_ok-new-in-Some
returns-in_ok-new-in-Some c =
    sym (first_value-rows (found_of c.args.matches.now) c.args.id.now) ∙ sym c.in-Some.ensures
    ∙ ap Some (sym (c.in_ok-new-in-Some.ensures ∙ c.as_bytes.ensures.value))

pub returns-in-None : goal.returns-in-None
returns-in-None c = λ same. sym (first_value-rows (found_of c.args.matches.now) c.args.id.now) ∙ sym c.in-None.ensures
