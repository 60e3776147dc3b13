use Rattle.capdl_write.proofs.Common.{arith, entry_text, says_line, says_lines, says_nothing}
use Rattle.capdl_write.proofs.holder.write_holders.Goals as goal

pub loop-entry-init : goal.loop-entry-init
loop-entry-init g c = says_nothing

pub loop-entry-preserved : goal.loop-entry-preserved
loop-entry-preserved g c = says_line (entry_text c.args.spec.now) c.args.entries.now c.loop-entry.entry-index c.entry-item.result
    (omega arith) c.entry-item.is c.loop-entry.invariant c.write_holder.ensures

pub returns : goal.returns
returns g c = says_lines (entry_text c.args.spec.now) c.args.entries.now c.loop-entry.entry-index (omega arith)
    c.loop-entry.invariant
