-- What a file keeps whose fields have no fault.
use Rattle.sect_table.proofs.Common.{Bool, Class, List, None, Some, arith, false, fault, fields_end, file_header, header_length, is_of_another_length, is_past, length, length_at, nat_tests, not, refl, short, table_fault, true, ℕ, ◌&&◌, ◌*◌, ◌+◌}
use Rattle.sect_table.proofs.Common.{◌==◌, ◌≡◌, ◌≢◌, ◌≤◌}
use Rattle.std.specs.Prelude.{nat_lt}
use Rattle.sect_table.specs.declared.fault.ElfCode.TheVariants as code
use Rattle.sect_table.specs.declared.file_header.FileHeader.{FileHeader}

pub fields_fit : (class : Class) (bytes : List ℕ) → table_fault class bytes ≡ None → fields_end class ≤ length bytes
fields_fit class bytes e = go (nat_lt (length bytes) (fields_end class)) refl
  where
    go : (b : Bool) → nat_lt (length bytes) (fields_end class) ≡ b → fields_end class ≤ length bytes
    go true h = let s : table_fault class bytes ≡ Some (short (length bytes)) = rw h refl in absurd cc
    go false h = grind (arith, nat_tests)

pub not_past : (class : Class) (bytes : List ℕ) → table_fault class bytes ≡ None
    → is_past (length bytes) class (file_header class bytes) ≡ false
not_past class bytes e = first (nat_lt (length bytes) (fields_end class)) refl
  where
    last : (b : Bool) → nat_lt (length bytes) (fields_end class) ≡ false
        → is_of_another_length class (file_header class bytes) ≡ false
        → is_past (length bytes) class (file_header class bytes) ≡ b
        → is_past (length bytes) class (file_header class bytes) ≡ false
    last true f g h = let s : table_fault class bytes ≡ Some (short (length bytes)) = rw (f, g, h) refl in absurd cc
    last false f g h = h

    second : (b : Bool) → nat_lt (length bytes) (fields_end class) ≡ false
        → is_of_another_length class (file_header class bytes) ≡ b
        → is_past (length bytes) class (file_header class bytes) ≡ false
    second true f h = let s : table_fault class bytes ≡ Some (fault code.Size (length_at class) (length_at class + 2)) =
        rw (f, h) refl in absurd cc
    second false f h = last (is_past (length bytes) class (file_header class bytes)) f h refl

    first : (b : Bool) → nat_lt (length bytes) (fields_end class) ≡ b
        → is_past (length bytes) class (file_header class bytes) ≡ false
    first true h = let s : table_fault class bytes ≡ Some (short (length bytes)) = rw h refl in absurd cc
    first false h = second (is_of_another_length class (file_header class bytes)) h refl

pub table_within : (length : ℕ) (class : Class) (h : FileHeader) → is_past length class h ≡ false → h.count ≢ 0
    → h.table + h.count * header_length class ≤ length
table_within length class h e some = grind (arith, nat_tests)

pub ruleset tables = (fields_fit, not_past, table_within)
