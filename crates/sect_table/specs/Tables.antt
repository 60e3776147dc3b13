-- Section tables. The first line that says something is the header; each other line is a section.
use Rattle.std.specs.Prelude.{◌≡◌, ℕ, ◌+◌, nat_lt, if◌then◌else◌, List, [], ◌∷◌, length, Option, Some, None, Result, Ok, Err}
use Rattle.std.specs.List.{filter_map}
use Rattle.std.specs.Option.{option_map, is_some}
use Rattle.cam_base.specs.declared.code.Code.TheVariants.{BadSections}
use Rattle.cam_base.specs.declared.error.Refused.{Refused}
use Rattle.cam_base.specs.declared.error.Refused.TheVariants as refused
use Rattle.cam_base.specs.declared.place.Fault.{Fault}
use Rattle.sect_table.specs.Headers.{header_of}
use Rattle.sect_table.specs.Sections.{section_of}
use Rattle.sect_table.specs.declared.image.Header.{Header}
use Rattle.sect_table.specs.declared.image.Image.{Image}
use Rattle.sect_table.specs.declared.image.Section.{Section}
use Rattle.cam_base.specs.Fields.{spaced_fields}
use Rattle.cam_base.specs.Lines.{Line, lines, end_of}

-- the most sections of a table
abbrev pub sections_limit : ℕ
sections_limit = 256

-- the section of a line, where so many stand before it
abbrev pub section_at : ℕ → Line → Option Section
section_at before line = if nat_lt before sections_limit then section_of (spaced_fields line.text) else None

-- the first line that is no section, where so many stand before them
abbrev pub first_bad : ℕ → List Line → Option Line
first_bad before [] = None
first_bad before (line ∷ more) = if is_some (section_at before line) then first_bad (before + 1) more else Some line

abbrev pub bad_between : ℕ → ℕ → ℕ → Fault
bad_between file first end = record { code = BadSections; place = record { file = file; first = first; end = end }; name = [] }

abbrev pub bad_line : ℕ → Line → Fault
bad_line file line = bad_between file line.first (end_of line)

-- the first fault of a table's lines; where it has none, it stands at the end of the file
abbrev pub fault_in : ℕ → ℕ → List Line → Option Fault
fault_in file length [] = Some (bad_between file length length)
fault_in file length (line ∷ more) = if is_some (header_of (spaced_fields line.text)) then option_map (bad_line file)
    (first_bad 0 more) else Some (bad_line file line)

-- the first fault of a table under its file's number
abbrev pub first_fault : ℕ → List ℕ → Option Fault
first_fault file bytes = fault_in file (length bytes) (lines bytes)

-- the sections that lines spell
abbrev pub sections_of : List Line → List Section
sections_of = filter_map (λ line. section_of (spaced_fields line.text))

abbrev pub image : List ℕ → List Line → Header → Image
image name more header = record { name = name; arch = header.arch; entry = header.entry; sections = sections_of more }

abbrev pub image_in : List ℕ → List Line → Option Image
image_in name [] = None
image_in name (line ∷ more) = option_map (image name more) (header_of (spaced_fields line.text))

-- the image that a table says
abbrev pub image_of : List ℕ → List ℕ → Option Image
image_of name bytes = image_in name (lines bytes)

-- What a reader of a table answers: its image, where no fault stands; or the first fault; or that memory ran out.
abbrev pub IsRead : ℕ → List ℕ → List ℕ → Result Image (Refused Fault) → Type 0
IsRead file name bytes (Ok image) = (first_fault file bytes ≡ None) × (image_of name bytes ≡ Some image)
IsRead file name bytes (Err (refused.Fault fault)) = first_fault file bytes ≡ Some fault
IsRead file name bytes (Err refused.NoMemory) = Unit {0}
