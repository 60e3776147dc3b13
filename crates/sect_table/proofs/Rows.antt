-- Tables are read back.
use Rattle.sect_table.proofs.Common.{AllByRecursion, Err, HasRow, HasTable, Image, IsRead, Line, List, None, Ok, Option, Refused, Result, Section, Some, [], ap, arith, fault_in, first_bad, header, header_of, image_in, inl, inr, length}
use Rattle.sect_table.proofs.Common.{lines, list_all, nat_lt, refl, rules, section_of, sections_of, spaced_fields, subst, sym, table_text, true, ℕ, ◌+◌, ◌∙◌, ◌∷◌, ◌≡◌, ◌≤◌, ◌⊎◌}
use Rattle.std.proofs.lemmas.Bool.{lt-ltb}
use Rattle.std.proofs.lemmas.Option.{same_Some}
use Rattle.cam_base.specs.declared.error.Refused.TheVariants as refused
use Rattle.cam_base.specs.declared.place.Fault.{Fault}
use Rattle.sect_table.specs.Tables.{first_fault, image_of}
use Rattle.sect_table.proofs.Fields.{entry_loud, entry_read, entry_row, entry_shown, row, row_loud, row_read, row_shown, rows, table_ended}
use Rattle.sect_table.proofs.Lines.{lines_ended, told, told_more}
use Rattle.sect_table.proofs.Words.{is_shown}

rows_shown : (ss : List Section) → AllByRecursion HasRow ss → AllByRecursion (λ l. list_all is_shown l ≡ true) (rows ss)
rows_shown [] h = tt
rows_shown (s ∷ ss) h = (row_shown s h.0, rows_shown ss h.1)

pub record Read (n : ℕ) (all : List Line) (ss : List Section) : Type 0 where
  pub fine : first_bad n all ≡ None
  pub sections : sections_of all ≡ ss

-- a line more
read_more : (n : ℕ) (line : Line) (more : List Line) (s : Section) (ss : List Section) → nat_lt n 256 ≡ true
    → section_of (spaced_fields line.text) ≡ Some s → Read (n + 1) more ss → Read n (line ∷ more) (s ∷ ss)
read_more n line more s ss few e r = search (rules)

rows_read : (ss : List Section) (at n : ℕ) → AllByRecursion HasRow ss → n + length ss ≤ 256 → Read n (told at (rows ss)) ss
rows_read [] at n h few = record { fine = refl; sections = refl }
rows_read (s ∷ ss) at n h few =
    let ih = rows_read ss (at + (length (row s) + 1)) (n + 1) h.1 (omega arith) in
    let all = read_more n (record { first = at; text = row s }) (told (at + (length (row s) + 1)) (rows ss)) s ss
    (lt-ltb n 256 (omega arith)) (row_read s h.0) ih in
    subst (λ k. Read n k (s ∷ ss)) (sym (told_more at (row s) (rows ss) (row_loud s h.0))) all

-- the lines of a table
table_lines : (image : Image) → HasTable image
    → lines (table_text image) ≡ record { first = 0; text = entry_row image.arch image.entry }
    ∷ told (0 + (length (entry_row image.arch image.entry) + 1)) (rows image.sections)
table_lines image h =
    ap lines (table_ended image)
    ∙ lines_ended (entry_row image.arch image.entry ∷ rows image.sections) (
      entry_shown image.arch image.entry h.entry,
      rows_shown image.sections h.rows,
    )
    ∙ told_more 0 (entry_row image.arch image.entry) (rows image.sections) (entry_loud image.arch image.entry)

fault_none : (file length : ℕ) (line : Line) (more : List Line) (image : Image)
    → header_of (spaced_fields line.text) ≡ Some (header image.arch image.entry) → first_bad 0 more ≡ None
    → fault_in file length (line ∷ more) ≡ None
fault_none file length line more image e f = rw (e, f) refl

image_some : (line : Line) (more : List Line) (image : Image)
    → header_of (spaced_fields line.text) ≡ Some (header image.arch image.entry) → sections_of more ≡ image.sections
    → image_in image.name (line ∷ more) ≡ Some image
image_some line more image e f = rw (e, f) refl

pub table_read : (file : ℕ) (image : Image) → HasTable image → (first_fault file (table_text image) ≡ None)
    × (image_of image.name (table_text image) ≡ Some image)
table_read file image h =
    let line : Line = record { first = 0; text = entry_row image.arch image.entry } in
    let more = told (0 + (length (entry_row image.arch image.entry) + 1)) (rows image.sections) in
    let r = rows_read image.sections (0 + (length (entry_row image.arch image.entry) + 1)) 0 h.rows (omega (arith, h.few)) in
    let e = entry_read image.arch image.entry h.entry in
    let all = table_lines image h in (
      ap (fault_in file (length (table_text image))) all ∙ fault_none file (length (table_text image)) line more image e r.fine,
      ap (image_in image.name) all ∙ image_some line more image e r.sections,
    )

-- what a reader answers
pub answered : (file : ℕ) (image : Image) (r : Result Image (Refused Fault)) → HasTable image
    → IsRead file image.name (table_text image) r → (r ≡ Ok image) ⊎ (r ≡ Err refused.NoMemory)
answered file image (Ok other) h read = let t = table_read file image h in inl (ap Ok (same_Some other image (sym read.1 ∙ t.1)))
answered file image (Err (refused.Fault fault)) h read = let t = table_read file image h in
    absurd (none (first_fault file (table_text image)) t.0 read)
  where
    none : (o : Option Fault) → o ≡ None → o ≡ Some fault → ⊥
    none o e f = cc
answered file image (Err refused.NoMemory) h read = inr refl
