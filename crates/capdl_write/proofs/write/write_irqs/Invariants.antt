use Rattle.capdl_write.proofs.Common.{Says, flat_map, irq_line, take}
use Rattle.capdl_write.proofs.write.write_irqs.Given as goal

abbrev pub invariant-loop-line : goal.invariant-loop-line
invariant-loop-line g l = Says l.fn.to (flat_map (irq_line l.spec) (take l.line-index l.lines)) l.to
