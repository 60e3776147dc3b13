-- What an ELF file is refused for. Its program headers stand one behind another in a table, header k at the table's place and
-- k times the length of one. Where a fault is told, all that comes in front of it in the order below is sound; where it is at a
-- program header, all headers in front of that one.
use Rattle.std.specs.Prelude.{◌≡◌, ◌≢◌, ◌<◌, ◌≤◌, ℕ, ◌+◌, ◌*◌, true, false, List, length, nat_eq, None, Some}
use Rattle.std.specs.List.{slice_index, starts_with}
use Rattle.sect_table.specs.Classes.{class_of, fields_end, header_length, length_at}
use Rattle.sect_table.specs.Faults.{fault, is_aligned, is_sized, is_whole, magic, short}
use Rattle.sect_table.specs.ElfHeaders.{file_header, headers, program_header}
use Rattle.sect_table.specs.ElfSections.{is_used, sections_of_all}
use Rattle.sect_table.specs.declared.class.Class.{Class}
use Rattle.sect_table.specs.declared.fault.ElfCode.TheVariants as code
use Rattle.sect_table.specs.declared.fault.ElfFault.{ElfFault}
use Rattle.sect_table.specs.declared.program_header.ProgramHeader.{ProgramHeader}
use Rattle.sect_table.specs.Tables.{sections_limit}

-- program header k of the file
abbrev pub header_at : Class → List ℕ → ℕ → ProgramHeader
header_at class bytes k = program_header class bytes k ((file_header class bytes).table + k * header_length class)

-- the file begins with the magic, and its bytes 4 and 5 say the class
pub record IsOfClass (bytes : List ℕ) (class : Class) : Type 0 where
  pub begins : starts_with nat_eq bytes magic ≡ true
  pub long : 6 ≤ length bytes
  pub says : class_of (slice_index bytes 4) (slice_index bytes 5) ≡ Some class

-- it has its fields, and, if it has program headers, these are of the class's length, and the file has them all
pub record HasTable (bytes : List ℕ) (class : Class) : Type 0 where
  pub kind : IsOfClass bytes class
  pub fields : fields_end class ≤ length bytes
  pub size : (file_header class bytes).count ≢ 0 → (file_header class bytes).length ≡ header_length class
  pub whole : (file_header class bytes).count ≢ 0
      → (file_header class bytes).table + (file_header class bytes).count * header_length class ≤ length bytes

-- a program header that is used has memory of a sound size, all its file bytes, and these at one place of a page
pub record IsSoundHeader (size : ℕ) (h : ProgramHeader) : Type 0 where
  pub sized : is_used h ≡ true → is_sized h ≡ true
  pub whole : is_used h ≡ true → is_whole size h ≡ true
  pub aligned : is_used h ≡ true → is_aligned h ≡ true

-- what is wrong with a program header in a file of that length
pub data IsHeaderFault (size : ℕ) (h : ProgramHeader) (f : ElfFault) : Type 0 where
  not_sized : is_used h ≡ true → is_sized h ≡ false → f ≡ fault code.Size h.first h.end → IsHeaderFault size h f
  not_whole : is_used h ≡ true → is_sized h ≡ true → is_whole size h ≡ false → f ≡ short size → IsHeaderFault size h f
  not_aligned : is_used h ≡ true → is_sized h ≡ true → is_whole size h ≡ true → is_aligned h ≡ false
      → f ≡ fault code.Align h.first h.end → IsHeaderFault size h f

-- the headers in front of that number are sound
abbrev pub AreSoundTo : List ℕ → Class → ℕ → Type 0
AreSoundTo bytes class n = (k : ℕ) → k < n → IsSoundHeader (length bytes) (header_at class bytes k)

pub data IsElfFault (bytes : List ℕ) (f : ElfFault) : Type 0 where
  no_magic : starts_with nat_eq bytes magic ≡ false → f ≡ fault code.Magic 0 4 → IsElfFault bytes f
  no_class_bytes : starts_with nat_eq bytes magic ≡ true → length bytes < 6 → f ≡ short (length bytes) → IsElfFault bytes f
  no_class : starts_with nat_eq bytes magic ≡ true → 6 ≤ length bytes
      → class_of (slice_index bytes 4) (slice_index bytes 5) ≡ None
      → f ≡ fault code.Class 4 6 → IsElfFault bytes f
  no_fields : (class : Class) → IsOfClass bytes class → length bytes < fields_end class → f ≡ short (length bytes)
      → IsElfFault bytes f
  another_length : (class : Class) → IsOfClass bytes class → fields_end class ≤ length bytes → (file_header class bytes).count ≢ 0
      → (file_header class bytes).length ≢ header_length class → f ≡ fault code.Size (length_at class) (length_at class + 2)
      → IsElfFault bytes f
  no_table : (class : Class) → IsOfClass bytes class → fields_end class ≤ length bytes → (file_header class bytes).count ≢ 0
      → (file_header class bytes).length ≡ header_length class
      → length bytes < (file_header class bytes).table + (file_header class bytes).count * header_length class
      → f ≡ short (length bytes) → IsElfFault bytes f
  in_header : (class : Class) (k : ℕ) → HasTable bytes class → k < (file_header class bytes).count → AreSoundTo bytes class k
      → IsHeaderFault (length bytes) (header_at class bytes k) f → IsElfFault bytes f
  many_sections : (class : Class) → HasTable bytes class → AreSoundTo bytes class (file_header class bytes).count
      → sections_limit < length (sections_of_all (headers class bytes)) → f ≡ fault code.Limit 0 0 → IsElfFault bytes f

-- nothing of this is wrong
pub record IsSoundElf (bytes : List ℕ) : Type 0 where
  pub class : Class
  pub table : HasTable bytes class
  pub sound : AreSoundTo bytes class (file_header class bytes).count
  pub few : length (sections_of_all (headers class bytes)) ≤ sections_limit
