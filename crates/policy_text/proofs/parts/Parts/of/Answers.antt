use Rattle.policy_text.proofs.Common.{IsBuilt, arith, line_of, subst, sym, take, told_lines}
use Rattle.policy_text.proofs.Judging.{told_more}
use Rattle.policy_text.proofs.parts.Parts.of.Goals as goal

pub loop-line-preserved : goal.loop-line-preserved
loop-line-preserved c =
    subst (IsBuilt c.add.new.self) (sym (told_more c.args.lines.now c.loop-line.line-index c.line-item.result (omega arith)
    c.line-item.is))
    (c.in_ok-add.ensures (told_lines (take c.loop-line.line-index c.args.lines.now)) (line_of c.line-item.result.line)
    c.loop-line.invariant)
