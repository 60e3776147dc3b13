-- The section table of an image: a line of its entry, and one of each section.
use Rattle.std.specs.Prelude.{ℕ, Bool, true, false, List, [], ◌∷◌, codes, Option, Some, None}
use Rattle.std.specs.List.{flat_map}
use Rattle.cam_base.specs.Hex.{hex_text}
use Rattle.cam_base.specs.Texts.{◌⊹◌, together}
use Rattle.cap_model.specs.declared.level.Arch.{Arch}
use Rattle.cap_model.specs.declared.level.Arch.TheVariants.{Arm11, Aarch64}
use Rattle.sect_table.specs.declared.image.Image.{Image}
use Rattle.sect_table.specs.declared.image.Section.{Section}

abbrev pub entry_end : Arch → List ℕ
entry_end Arm11 = codes "\n"
entry_end Aarch64 = codes " aarch64\n"

-- `entry 0x10000`
abbrev pub entry_line : Arch → ℕ → List ℕ
entry_line arch entry = together (codes "entry " ∷ hex_text entry ∷ entry_end arch ∷ [])

abbrev pub rights_word : Bool → List ℕ
rights_word true = codes " RW "
rights_word false = codes " R "

abbrev pub place_word : Option ℕ → List ℕ
place_word None = codes "-"
place_word (Some at) = hex_text at

-- `load_0 0x10000 0x1810 RW 0x1000`
abbrev pub section_line : Section → List ℕ
section_line s = together (s.name ∷ codes " " ∷ hex_text s.vaddr ∷ codes " " ∷ hex_text s.size ∷ rights_word s.write
    ∷ place_word s.at ∷ codes "\n" ∷ [])

unfoldable pub table_text : Image → List ℕ
table_text image = entry_line image.arch image.entry ⊹ flat_map section_line image.sections
