use Rattle.sect_table.proofs.Common.{arith, says_line, says_lines, says_nothing, section_line}
use Rattle.sect_table.proofs.write.write_lines.Goals as goal

pub loop-section-init : goal.loop-section-init
loop-section-init g c = says_nothing

pub loop-section-preserved : goal.loop-section-preserved
loop-section-preserved g c = says_line section_line c.args.sections.now c.loop-section.section-index c.section-item.result
    (omega arith) c.section-item.is c.loop-section.invariant c.write_section.ensures

pub returns : goal.returns
returns g c = says_lines section_line c.args.sections.now c.loop-section.section-index (omega arith) c.loop-section.invariant
