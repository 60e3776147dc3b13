-- The text of a plan: how many objects have a place and how many bytes they have, and a line of each.
use Rattle.std.specs.Prelude.{ℕ, ◌^◌, List, [], ◌∷◌, codes, decimal, Option, Some, None}
use Rattle.std.specs.List.{flat_map, sum_by, zip}
use Rattle.cam_base.specs.Hex.{hex_text}
use Rattle.cam_base.specs.Texts.{◌⊹◌, together}
use Rattle.cap_model.specs.declared.level.Arch.{Arch}
use Rattle.cap_model.specs.declared.spec.Entry.{Entry}
use Rattle.cap_model.specs.declared.spec.Spec.{Spec}
use Rattle.boot_plan.specs.Needs.{bits_of, need}

abbrev pub entry_bits : Arch → Entry → ℕ
entry_bits arch entry = bits_of (need arch entry.object)

-- whether it has a place, as a number, and its bytes if so
abbrev pub one_placed : Entry × Option ℕ → ℕ
one_placed (entry, None) = 0
one_placed (entry, Some first) = 1

abbrev pub bytes_placed : Arch → Entry × Option ℕ → ℕ
bytes_placed arch (entry, None) = 0
bytes_placed arch (entry, Some first) = 2 ^ entry_bits arch entry

-- `place tcb_0 0x80000000 10`
abbrev pub place_line : Arch → Entry × Option ℕ → List ℕ
place_line arch (entry, None) = []
place_line arch (entry, Some first) = together (codes "place " ∷ entry.name ∷ codes " " ∷ hex_text first ∷ codes " "
    ∷ decimal (entry_bits arch entry) ∷ codes "\n" ∷ [])

-- `planned 21 objects 76880 bytes`
abbrev pub planned_line : ℕ → ℕ → List ℕ
planned_line objects bytes = together (codes "planned " ∷ decimal objects ∷ codes " objects " ∷ decimal bytes
    ∷ codes " bytes\n" ∷ [])

abbrev pub place_lines : Spec → List (Option ℕ) → List ℕ
place_lines spec places = flat_map (place_line spec.arch) (zip spec.entries places)

unfoldable pub plan_text : Spec → List (Option ℕ) → List ℕ
plan_text spec places =
    planned_line (sum_by one_placed (zip spec.entries places)) (sum_by (bytes_placed spec.arch) (zip spec.entries places))
    ⊹ place_lines spec places
