use Rattle.step_text.proofs.Common.{ap, found_in, line_of, texts, ◌∙◌}
use Rattle.step_text.proofs.Reading.{line_step, line_fault}
use Rattle.step_text.proofs.reader.read_line.Goals as goal

pub returns-in-Ok : goal.returns-in-Ok
returns-in-Ok c = line_step (found_in c.args.threads.now) c.args.before (line_of c.args.line) (texts c.as_slice.result.now)
    c.in-Ok.step (ap texts c.as_slice.ensures.value ∙ c.in_ok-fields.ensures) c.in-Ok.ensures

pub returns : goal.returns
returns c = line_fault (found_in c.args.threads.now) c.args.before (line_of c.args.line) (texts c.as_slice.result.now)
    (c.in-Err.code, c.in-Err.name.now) c.refusal.result (ap texts c.as_slice.ensures.value ∙ c.in_ok-fields.ensures)
    c.in-Err.ensures c.refusal.ensures
