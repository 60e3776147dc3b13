-- The first line of a section table: `entry`, where the program begins, and the architecture. Without that word it is
-- the 32-bit one.
use Rattle.std.specs.Prelude.{ℕ, ◌&&◌, if◌then◌else◌, List, [], ◌∷◌, codes, Option, None}
use Rattle.std.specs.Option.{option_map}
use Rattle.std.specs.Str.{bytes_eq}
use Rattle.cam_base.specs.Numbers.{number_value}
use Rattle.cap_model.specs.declared.level.Arch.{Arch}
use Rattle.cap_model.specs.declared.level.Arch.TheVariants.{Arm11, Aarch64}
use Rattle.sect_table.specs.declared.image.Header.{Header}

abbrev pub header : Arch → ℕ → Header
header arch entry = record { arch = arch; entry = entry }

-- the header that fields spell
abbrev pub header_of : List (List ℕ) → Option Header
header_of (word ∷ entry ∷ []) = if bytes_eq word (codes "entry") then option_map (header Arm11) (number_value entry) else None
header_of (word ∷ entry ∷ arch ∷ []) = if bytes_eq word (codes "entry") && bytes_eq arch (codes "aarch64") then option_map
    (header Aarch64) (number_value entry) else None
header_of _ = None
