-- The lines that are left to an iterator.
use Rattle.std.specs.Prelude.{List}
use Rattle.cam_base.specs.Lines as spec
use Rattle.cam_base.specs.Parts.{parts_from}
use Rattle.cam_base.specs.declared.line.Line.{Line}
use Rattle.cam_base.specs.declared.line.Lines.{Lines}

abbrev pub line_of : Line → spec.Line
line_of line = record { first = line.first; text = line.text.now }

abbrev pub lines_left : Lines → List spec.Line
lines_left lines = spec.telling (spec.placed lines.at (parts_from spec.line_feed lines.at lines.bytes.now))
