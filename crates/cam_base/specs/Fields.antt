-- The fields of a line.
use Rattle.std.specs.Prelude.{ℕ, ◌-◌, ◌==◌, Bool, not, ◌||◌, if◌then◌else◌, List, [], length, filter}
use Rattle.std.specs.List.{slice_index}
use Rattle.cam_base.specs.Parts.{parts}

-- the byte of a space
abbrev pub space : ℕ
space = 32

-- those that one space parts
abbrev pub fields : List ℕ → List (List ℕ)
fields line = parts space line

-- a space stands in front of the first field or behind the last
abbrev pub is_padded : List ℕ → Bool
is_padded line = slice_index line 0 == space || slice_index line (length line - 1) == space

-- those that one or more spaces part; none where the line is padded
abbrev pub spaced_fields : List ℕ → List (List ℕ)
spaced_fields line = if is_padded line then [] else filter (λ field. not (length field == 0)) (fields line)
