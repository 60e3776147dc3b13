use Rattle.step_text.proofs.Common.{IsRead, ap, arith, first_fault_of, found_in, line_of, lines_left, ◌∙◌}
use Rattle.cam_base.proofs.Errors.{passed_on}
use Rattle.step_text.proofs.Reading.{text_refused}
use Rattle.step_text.proofs.reader.read_steps.Goals as goal

pub returns-in_err-step : goal.returns-in_err-step
returns-in_err-step c =
    passed_on (IsRead c.args.spec.now c.args.bytes.now) c.from_residual-in_err-step.result c.in_err-step.field-0.0
    c.from_residual-in_err-step.ensures.1
    (text_refused c.args.spec.now c.args.bytes.now (found_in c.in_ok-threads.threads) c.len.result (line_of c.in-Some.line)
    (lines_left c.loop-line.line-iterator) (lines_left c.next.new.self)
    c.in_err-step.field-0.0 (omega arith) c.in_ok-threads.ensures c.in-Some.ensures.steps
    (ap (λ n. first_fault_of (found_in c.in_ok-threads.threads) n (lines_left c.loop-line.line-iterator)) c.len.ensures
    ∙ c.loop-line.invariant.faults) c.in_err-step.ensures)
