-- The architecture of section tables: that of the first table whose first line is of its form, also where a later line of
-- it is at fault. Tables that are absent or too long say nothing of it.
use Rattle.std.specs.Prelude.{ℕ, Bool, true, false, if◌then◌else◌, List, [], ◌∷◌, Option, Some, None}
use Rattle.source_images.specs.Below.{Aarch64, Arch, Arm11, Fault, Line, bad_line, lines, option_map, option_map_or, option_or}
use Rattle.sect_table.specs.Headers.{header_of}
use Rattle.sect_table.specs.declared.image.Header.{Header}
use Rattle.source_images.specs.Found.{Found, absent, too_long, table}
use Rattle.cam_base.specs.Fields.{spaced_fields}

abbrev pub header_in : List Line → Option Header
header_in [] = None
header_in (line ∷ more) = header_of (spaced_fields line.text)

abbrev pub arch_in : Found → Option Arch
arch_in absent = None
arch_in too_long = None
arch_in (table bytes) = option_map (λ h. h.arch) (header_in (lines bytes))

-- that of all tables
abbrev pub first_arch : List Found → Option Arch
first_arch [] = None
first_arch (x ∷ more) = option_or (arch_in x) (first_arch more)

abbrev pub differs : Arch → Arch → Bool
differs Arm11 Arm11 = false
differs Arm11 Aarch64 = true
differs Aarch64 Arm11 = true
differs Aarch64 Aarch64 = false

-- an architecture is another one than that of all tables
abbrev pub is_other : Option Arch → Arch → Bool
is_other first arch = option_map_or (λ a. differs a arch) first false

-- at the first line
abbrev pub at_first_line : ℕ → List Line → Option Fault
at_first_line file [] = None
at_first_line file (line ∷ more) = Some (bad_line file line)

-- the fault of a table's first line that names another architecture
abbrev pub other_arch : Option Arch → ℕ → List ℕ → Option Fault
other_arch first file bytes =
    if option_map_or (is_other first) (arch_in (table bytes)) false then at_first_line file (lines bytes) else None
