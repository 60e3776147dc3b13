-- The table that is printed of an ELF file is read back as its image, under any name.
use Rattle.text_commands.proofs.Common.{Contents, Err, Holds, IsTabled, List, Ok, Refused, Result, Some, Tabled, ap, codes, refl, subst, ℕ, ◌≡◌, ◌⊎◌}
use Rattle.std.specs.FinMap as contents
use Rattle.cam_base.specs.declared.error.Refused.TheVariants as refused
use Rattle.cam_base.specs.declared.place.Fault.{Fault}
use Rattle.sect_table.proofs.Rows.{answered}
use Rattle.sect_table.proofs.Sound.{has_table}
use Rattle.sect_table.specs.TablesBack.{AreBytes}
use Rattle.sect_table.specs.Elf.{Elf}
use Rattle.sect_table.specs.Texts.{table_text}
use Rattle.sect_table.specs.Tables as tables
use Rattle.sect_table.specs.declared.image.Image.{Image}
use Rattle.text_commands.proofs.Turning.{then_ok}

abbrev renamed : List ℕ → Image → Image
renamed name image = record image { name = name }

of_name : (name bytes : List ℕ) (image : Image) → Elf (codes "image") bytes image → Elf name bytes (renamed name image)
of_name name bytes image elf = record { sound = elf.sound; class = elf.class; known = elf.known; is = ap (renamed name) elf.is }

same_text : (name : List ℕ) (image : Image) → table_text image ≡ table_text (renamed name image)
unfolding table_text
same_text name image = refl

read_back : (file : ℕ) (name bytes : List ℕ) (image : Image) (r : Result Image (Refused Fault)) → AreBytes bytes
    → Elf (codes "image") bytes image → tables.IsRead file name (table_text image) r
    → (r ≡ Ok (renamed name image)) ⊎ (r ≡ Err refused.NoMemory)
read_back file name bytes image r are elf read =
    answered file (renamed name image) r (has_table name bytes (renamed name image) are (of_name name bytes image elf))
    (subst (λ text. tables.IsRead file name text r) (same_text name image) read)

pub table_back : (m : Contents) (old new : List ℕ → ℕ) (elf bytes : List ℕ) (image : Image)
    → IsTabled m old new elf (Ok (Tabled image)) → Holds m elf bytes → AreBytes bytes
    → (file : ℕ) (name : List ℕ) (r : Result Image (Refused Fault)) → tables.IsRead file name (table_text image) r
    → (r ≡ Ok (renamed name image)) ⊎ (r ≡ Err refused.NoMemory)
table_back m old new elf bytes image tabled held are file name r read =
    let (made, turn, is) = then_ok (Tabled image) tabled in
    let (there, input, told) = then_ok made turn in
    let mine : contents.get m elf ≡ Some bytes = held in
    let other : contents.get m elf ≡ Some there = input.1 in
    let same : there ≡ bytes = cc in
    let images : made ≡ image = cc in
    read_back file name bytes image r are (subst (λ z. Elf (codes "image") z image) same (subst (λ z. Elf (codes "image") there z)
    images told)) read
