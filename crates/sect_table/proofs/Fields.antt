-- The fields of the lines of a table.
use Rattle.sect_table.proofs.Common.{AllByRecursion, Bool, HasRow, Image, List, None, Option, Section, Some, [], and_parts, ap, append_assoc, arith, codes, entry_line, false, flat_map, header, header_of, is_placed, is_silent, is_sound}
use Rattle.sect_table.proofs.Common.{leb, list_all, ltb-true, nat_tests, not, number_value, number_value-hex_text, numbers_of, place_of, refl, section_line, section_of, spaced_fields, spelled, sym, true, writes_of, ℕ, ◌%◌, ◌&&◌, ◌++◌, ◌+◌}
use Rattle.sect_table.proofs.Common.{rules, ◌<◌, ◌==◌, ◌^◌, ◌∙◌, ◌∷◌, ◌≡◌}
use Rattle.std.specs.Str.{bytes_eq}
use Rattle.cam_base.specs.Hex.{hex_text}
use Rattle.cam_base.specs.Names.{is_letter, is_name, is_word_byte}
use Rattle.cam_base.specs.Texts.{together}
use Rattle.cam_io.proofs.Writing.{beside}
use Rattle.cap_model.specs.declared.level.Arch.{Arch}
use Rattle.cap_model.specs.declared.level.Arch.TheVariants.{Arm11, Aarch64}
use Rattle.sect_table.specs.Texts.{table_text}
use Rattle.sect_table.proofs.Lines.{ended, loud}
use Rattle.sect_table.proofs.Numbers.{hex_plain}
use Rattle.sect_table.proofs.Words.{Plain, is_clean, is_shown, spaced, spaced_read, spaced_shown}

-- ---- the line of a section

abbrev pub rights : Bool → List ℕ
rights true = 82 ∷ 87 ∷ []
rights false = 82 ∷ []

abbrev pub place : Option ℕ → List ℕ
place None = 45 ∷ []
place (Some at) = hex_text at

abbrev pub words : Section → List (List ℕ)
words s = hex_text s.vaddr ∷ hex_text s.size ∷ rights s.write ∷ place s.at ∷ []

abbrev pub row : Section → List ℕ
row s = spaced s.name (words s)

-- what a sound section keeps
pub record Numbers (s : Section) : Type 0 where
  pub vaddr : s.vaddr < 2 ^ 64
  pub size : s.size < 2 ^ 64
  pub at : is_placed s.at s.size ≡ true

numbers : (s : Section) → is_sound s ≡ true → Numbers s
numbers s h = search (rules, and_parts, ltb-true)

at_small : (at size : ℕ) → is_placed (Some at) size ≡ true → at < 2 ^ 64
at_small at size h = let l = ltb-true (at + size) (2 ^ 64) h in omega (arith, l)

clean_letter : (b : ℕ) → is_letter b ≡ true → is_clean b ≡ true
clean_letter b h = grind (arith, nat_tests)

clean_byte : (b : ℕ) → is_word_byte b ≡ true → is_clean b ≡ true
clean_byte b h = grind (arith, nat_tests)

clean_bytes : (bs : List ℕ) → list_all is_word_byte bs ≡ true → list_all is_clean bs ≡ true
clean_bytes [] h = refl
clean_bytes (b ∷ bs) h = let p = and_parts (is_word_byte b) (list_all is_word_byte bs) h in
    rw (clean_byte b p.0, clean_bytes bs p.1) refl

name_plain : (name : List ℕ) → is_name name ≡ true → Plain name
name_plain [] h = absurd cc
name_plain (b ∷ bs) h = search (rules, and_parts, leb, clean_letter, clean_bytes)

no_dash : (b : ℕ) → is_letter b ≡ true → (b == 45) ≡ false
no_dash b h = grind (arith, nat_tests)

name_loud : (name more : List ℕ) → is_name name ≡ true → is_silent (name ++ more) ≡ false
name_loud [] more h = absurd cc
name_loud (b ∷ bs) more h = search (rules, and_parts, leb, loud, no_dash)

rights_plain : (b : Bool) → Plain (rights b)
rights_plain true = record { some = omega arith; clean = refl }
rights_plain false = record { some = omega arith; clean = refl }

place_plain : (at : Option ℕ) (size : ℕ) → is_placed at size ≡ true → Plain (place at)
place_plain None size h = record { some = omega arith; clean = refl }
place_plain (Some at) size h = hex_plain at (at_small at size h)

words_plain : (s : Section) → HasRow s → AllByRecursion Plain (words s)
words_plain s h = let n = numbers s h.sound in
    (hex_plain s.vaddr n.vaddr, (hex_plain s.size n.size, (rights_plain s.write, (place_plain s.at s.size n.at, tt))))

rights_read : (b : Bool) → writes_of (rights b) ≡ Some b
rights_read true = refl
rights_read false = refl

hex_no_dash : (n : ℕ) → bytes_eq (hex_text n) (codes "-") ≡ false
unfolding hex_text
hex_no_dash n = refl

place_read : (at : Option ℕ) (size : ℕ) → is_placed at size ≡ true → place_of (place at) ≡ Some at
place_read None size h = refl
place_read (Some at) size h = other (hex_text at) at (number_value-hex_text at (at_small at size h)) (hex_no_dash at)
  where
    other : (word : List ℕ) (n : ℕ) → number_value word ≡ Some n → bytes_eq word (codes "-") ≡ false
        → place_of word ≡ Some (Some n)
    other word n v e = rw (e, v) refl

numbers_read : (s : Section) → HasRow s → numbers_of (hex_text s.vaddr) (hex_text s.size) (rights s.write) (place s.at) ≡ Some
    (s.vaddr, s.size, s.write, s.at)
numbers_read s h = search (rules, numbers, number_value-hex_text, rights_read, place_read)

pub row_read : (s : Section) → HasRow s → section_of (spaced_fields (row s)) ≡ Some s
row_read s h =
    let fields = spaced_read s.name (words s) (name_plain s.name h.named) (words_plain s h) in
    let spelt : spelled (s.name ∷ words s) ≡ Some s = rw (h.named, numbers_read s h) refl in
    ap section_of fields ∙ sound_one spelt
  where
    sound_one : spelled (s.name ∷ words s) ≡ Some s → section_of (s.name ∷ words s) ≡ Some s
    sound_one e = rw (e, h.sound) refl

pub row_shown : (s : Section) → HasRow s → list_all is_shown (row s) ≡ true
row_shown s h = spaced_shown s.name (words s) (name_plain s.name h.named) (words_plain s h)

pub row_loud : (s : Section) → HasRow s → is_silent (row s) ≡ false
row_loud s h = name_loud s.name (32 ∷ spaced (hex_text s.vaddr) (hex_text s.size ∷ rights s.write ∷ place s.at ∷ [])) h.named

-- ---- the line of the entry

abbrev pub entry_words : Arch → ℕ → List (List ℕ)
entry_words Arm11 entry = hex_text entry ∷ []
entry_words Aarch64 entry = hex_text entry ∷ codes "aarch64" ∷ []

abbrev pub entry_row : Arch → ℕ → List ℕ
entry_row arch entry = spaced (codes "entry") (entry_words arch entry)

entry_plain : Plain (codes "entry")
entry_plain = record { some = omega arith; clean = refl }

entry_words_plain : (arch : Arch) (entry : ℕ) → entry < 2 ^ 64 → AllByRecursion Plain (entry_words arch entry)
entry_words_plain Arm11 entry l = (hex_plain entry l, tt)
entry_words_plain Aarch64 entry l = (hex_plain entry l, (record { some = omega arith; clean = refl }, tt))

header_read : (arch : Arch) (entry : ℕ) → entry < 2 ^ 64 → header_of (codes "entry" ∷ entry_words arch entry) ≡ Some
    (header arch entry)
header_read Arm11 entry l = rw (number_value-hex_text entry l) refl
header_read Aarch64 entry l = rw (number_value-hex_text entry l) refl

pub entry_read : (arch : Arch) (entry : ℕ) → entry < 2 ^ 64 → header_of (spaced_fields (entry_row arch entry)) ≡ Some
    (header arch entry)
entry_read arch entry l = search (rules, spaced_read, entry_plain, entry_words_plain, header_read)

pub entry_shown : (arch : Arch) (entry : ℕ) → entry < 2 ^ 64 → list_all is_shown (entry_row arch entry) ≡ true
entry_shown arch entry l = spaced_shown (codes "entry") (entry_words arch entry) entry_plain (entry_words_plain arch entry l)

pub entry_loud : (arch : Arch) (entry : ℕ) → is_silent (entry_row arch entry) ≡ false
entry_loud Arm11 entry = refl
entry_loud Aarch64 entry = refl

-- ---- the text of a table

section_text : (s : Section) → section_line s ≡ row s ++ 10 ∷ []
unfolding together
section_text s = go s.write s.at
  where
    go : (write : Bool) (at : Option ℕ) → section_line (record s { write = write; at = at }) ≡ row
        (record s { write = write; at = at }) ++ 10 ∷ []
    go true None = sym (simp append_assoc)
    go true (Some at) = sym (simp append_assoc)
    go false None = sym (simp append_assoc)
    go false (Some at) = sym (simp append_assoc)

entry_text : (arch : Arch) (entry : ℕ) → entry_line arch entry ≡ entry_row arch entry ++ 10 ∷ []
unfolding together
entry_text Arm11 entry = refl
entry_text Aarch64 entry = sym (simp append_assoc)

abbrev pub rows : List Section → List (List ℕ)
rows [] = []
rows (s ∷ ss) = row s ∷ rows ss

sections_text : (ss : List Section) → flat_map section_line ss ≡ ended (rows ss)
sections_text [] = refl
sections_text (s ∷ ss) = ap (λ k. k ++ flat_map section_line ss) (section_text s) ∙ append_assoc (row s) (10 ∷ [])
    (flat_map section_line ss) ∙ ap (λ k. row s ++ 10 ∷ k) (sections_text ss)

pub table_ended : (image : Image) → table_text image ≡ ended (entry_row image.arch image.entry ∷ rows image.sections)
unfolding table_text
table_ended image = search (rules, beside, entry_text, append_assoc, sections_text)
