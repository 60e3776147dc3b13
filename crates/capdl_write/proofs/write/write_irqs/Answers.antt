use Rattle.capdl_write.proofs.Common.{arith, get_or, get_or_default, irq_line, says_line, says_lines, says_nothing}
use Rattle.capdl_write.proofs.write.write_irqs.Goals as goal

pub loop-line-init : goal.loop-line-init
loop-line-init g c = says_nothing

pub loop-line-preserved : goal.loop-line-preserved
loop-line-preserved g c = says_line (irq_line c.args.spec.now) c.args.lines.now c.loop-line.line-index
    (get_or c.args.lines.now c.loop-line.line-index (0, 0)) (omega arith) (get_or_default c.args.lines.now c.loop-line.line-index
    _ _ (omega arith)) c.loop-line.invariant c.write_irq.ensures

pub returns : goal.returns
returns g c = says_lines (irq_line c.args.spec.now) c.args.lines.now c.loop-line.line-index (omega arith) c.loop-line.invariant
