use Rattle.policy_text.proofs.Common.{FindsFault, IsSeen, [], arith, first_wrong, knows, passed_on, subst, sym, take, told_lines, ◌∙◌}
use Rattle.policy_text.proofs.Judging.{told_more, check_step, check_fails, few_front}
use Rattle.policy_text.proofs.read.check_lines.Goals as goal

pub returns-in_err-read_line : goal.returns-in_err-read_line
returns-in_err-read_line c =
    let all = first_wrong (knows c.args.known.now) [] (told_lines c.args.lines.now) in
    let judged = c.in_err-read_line.ensures.judged (told_lines (take c.loop-line.line-index c.args.lines.now))
    c.loop-line.invariant.seen
    (λ none. few_front c.args.lines.now c.loop-line.line-index c.line-item.result (omega arith) c.line-item.is
    (c.loop-line.invariant.few none)) in
    passed_on (FindsFault all) c.from_residual-in_err-read_line.result c.in_err-read_line.field-0.0
    c.from_residual-in_err-read_line.ensures.1
    (check_fails (knows c.args.known.now) c.args.lines.now c.loop-line.line-index c.line-item.result (omega arith) c.line-item.is
    all c.in_err-read_line.field-0.0 c.loop-line.invariant.wrong judged)

pub loop-line-preserved : goal.loop-line-preserved
loop-line-preserved c =
    let judged = c.in_ok-read_line.ensures.judged (told_lines (take c.loop-line.line-index c.args.lines.now))
    c.loop-line.invariant.seen
    (λ none. few_front c.args.lines.now c.loop-line.line-index c.line-item.result (omega arith) c.line-item.is
    (c.loop-line.invariant.few none)) in
    record {
      seen =
          subst (IsSeen c.read_line.new.self)
          (sym (told_more c.args.lines.now c.loop-line.line-index c.line-item.result (omega arith) c.line-item.is)) judged.1;
      wrong = check_step (knows c.args.known.now) c.args.lines.now c.loop-line.line-index c.line-item.result (omega arith)
          c.line-item.is _ c.loop-line.invariant.wrong judged.0;
      few = λ none. c.loop-line.invariant.few (sym c.in_ok-read_line.ensures.few ∙ none);
    }
