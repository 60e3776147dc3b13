use Rattle.command_words.proofs.Common.{ap, count_of, first_value-rows, found_of, option_and_then, sym, ◌∙◌}
use Rattle.command_words.proofs.reading.count_of.Goals as goal

pub returns-in_default : goal.returns-in_default
returns-in_default c =
    ap (option_and_then count_of) (sym (c.in_default.ensures ∙ first_value-rows (found_of c.args.matches.now) c.args.id.now))

pub returns-in-Some-count_in : goal.returns-in-Some-count_in
returns-in-Some-count_in c =
    ap (option_and_then count_of) (sym (c.in-Some.ensures ∙ first_value-rows (found_of c.args.matches.now) c.args.id.now))
    ∙ sym (c.in-Some-count_in.ensures ∙ ap count_of c.as_bytes.ensures.value)

pub returns-in-None : goal.returns-in-None
returns-in-None c =
    ap (option_and_then count_of) (sym (c.in-Some.ensures ∙ first_value-rows (found_of c.args.matches.now) c.args.id.now))
    ∙ sym (c.in-None.ensures ∙ ap count_of c.as_bytes.ensures.value)
