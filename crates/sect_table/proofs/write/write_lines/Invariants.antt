use Rattle.sect_table.proofs.Common.{Says, flat_map, section_line, take}
use Rattle.sect_table.proofs.write.write_lines.Given as goal

abbrev pub invariant-loop-section : goal.invariant-loop-section
invariant-loop-section g l = Says l.fn.to (flat_map section_line (take l.section-index l.sections)) l.to
