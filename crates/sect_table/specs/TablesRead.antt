-- What is read of a table's lines.
use Rattle.std.specs.Prelude.{◌≡◌, ℕ, List, Some, None, Result, Ok, Err}
use Rattle.std.specs.Option.{option_map}
use Rattle.cam_base.specs.declared.error.Refused.{Refused}
use Rattle.cam_base.specs.declared.error.Refused.TheVariants as refused
use Rattle.cam_base.specs.declared.place.Fault.{Fault}
use Rattle.sect_table.specs.Tables.{bad_line, first_bad, sections_of}
use Rattle.sect_table.specs.declared.image.Section.{Section}
use Rattle.cam_base.specs.Lines.{Line}

-- the sections of lines where none is at fault, or the first fault, unless memory ran out
abbrev pub AreSectionsRead : ℕ → List Line → Result (List Section) (Refused Fault) → Type 0
AreSectionsRead file lines (Ok sections) = (first_bad 0 lines ≡ None) × (sections ≡ sections_of lines)
AreSectionsRead file lines (Err (refused.Fault fault)) = option_map (bad_line file) (first_bad 0 lines) ≡ Some fault
AreSectionsRead file lines (Err refused.NoMemory) = Unit {0}
