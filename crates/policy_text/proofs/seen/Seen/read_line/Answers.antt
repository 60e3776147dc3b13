use Rattle.policy_text.proofs.Common.{ap, knows, line_of, refl, sym, told_line, what, ◌∙◌}
use Rattle.policy_text.proofs.Judging.{judged_right}
use Rattle.policy_text.proofs.seen.Seen.read_line.Goals as goal

pub returns-clause-judged : goal.returns-clause-judged
returns-clause-judged c = λ before seen few.
    let line = line_of c.args.told.line in
    let none = sym (c.wrong.ensures before line refl seen few) ∙ ap what c.in_default.is in
    judged_right (knows c.args.known.now) before (told_line c.args.told) c.add.new.self none
    (c.in_ok-add.ensures.takes before (knows c.args.known.now) line refl seen none)
