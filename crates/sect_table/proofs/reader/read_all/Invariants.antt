use Rattle.sect_table.proofs.Common.{first_bad, length, sections_of, ◌++◌, ◌≡◌}
use Rattle.cam_base.specs.LinesLeft.{lines_left}
use Rattle.sect_table.proofs.reader.read_all.Given as goal

abbrev pub invariant-loop-line : goal.invariant-loop-line
invariant-loop-line l = record {
  bad : first_bad (length l.sections) (lines_left l.line-iterator) ≡ first_bad 0 (lines_left l.fn.lines);
  sections : l.sections ++ sections_of (lines_left l.line-iterator) ≡ sections_of (lines_left l.fn.lines);
}
