-- A table can say the image of a file.
use Rattle.sect_table.proofs.Common.{AllByRecursion, AreBytes, Bool, Class, Elf, ElfFault, HasRow, HasTable, Image, List, None, ProgramHeader, Section, Some, [], and_from, and_parts, ap, arith, codes, cond, decimal, drop, eqb-true, false, fault}
use Rattle.sect_table.proofs.Common.{fault_behind, fault_of_used, fault_within, file_end, file_header, header_fault, header_length, headers, headers_fault, headers_from, image_of, is_aligned, is_sized, is_sound, is_used, is_whole, is_writable, leb}
use Rattle.sect_table.proofs.Common.{length, limit_fault, list_all, lit<, loaded, ltb-true, memory_end, nat_lt, nat_tests, not, option_or, page_down, page_up, pow-le-pow_right, pow-suc, program_header, refl, sections_of_all, sections_of_used, short}
use Rattle.sect_table.proofs.Common.{rules, subst, suc, sym, table_fault, take, true, zero, zeros, zeros_behind, ℕ, ◌%◌, ◌++◌, ◌+◌, ◌-◌, ◌<◌, ◌==◌, ◌^◌, ◌∙◌, ◌∷◌, ◌≡◌, ◌≤◌}
use Rattle.std.proofs.lemmas.Bool.{leb-true}
use Rattle.cam_base.proofs.Options.{neither}
use Rattle.sect_table.specs.Fields.{field, little}
use Rattle.sect_table.specs.ElfSections.{sections_of}
use Rattle.sect_table.specs.declared.class.Class.TheVariants.{Bits32, Bits64}
use Rattle.sect_table.specs.declared.fault.ElfCode.TheVariants as code
use Rattle.cam_base.proofs.Naming.{is_name-numbered}

-- ---- fields

little_small : (bs : List ℕ) → list_all (λ b. nat_lt b 256) bs ≡ true → little bs < 256 ^ length bs
little_small [] h = lit< tt
little_small (b ∷ bs) h =
    let p = and_parts (nat_lt b 256) (list_all (λ b. nat_lt b 256) bs) h in
    let ih = little_small bs p.1 in
    let l = ltb-true b 256 p.0 in
    let e = pow-suc 256 (length bs) in
    omega (arith, ih, l, e)

all_taken : (p : ℕ → Bool) (n : ℕ) (bs : List ℕ) → list_all p bs ≡ true → list_all p (take n bs) ≡ true
all_taken p zero bs h = refl
all_taken p (suc n) [] h = refl
all_taken p (suc n) (b ∷ bs) h = let q = and_parts (p b) (list_all p bs) h in
    and_from (p b) (list_all p (take n bs)) q.0 (all_taken p n bs q.1)

all_dropped : (p : ℕ → Bool) (n : ℕ) (bs : List ℕ) → list_all p bs ≡ true → list_all p (drop n bs) ≡ true
all_dropped p zero bs h = h
all_dropped p (suc n) [] h = refl
all_dropped p (suc n) (b ∷ bs) h = all_dropped p n bs (and_parts (p b) (list_all p bs) h).1

take_short : (n : ℕ) (bs : List ℕ) → length (take n bs) ≤ n
take_short zero bs = omega arith
take_short (suc n) [] = omega arith
take_short (suc n) (b ∷ bs) = let ih = take_short n bs in omega (arith, ih)

field_small : (bytes : List ℕ) (at size : ℕ) → AreBytes bytes → field bytes at size < 256 ^ size
field_small bytes at size h = grind (arith, little_small, all_taken, nat_lt, all_dropped, take_short, pow-le-pow_right)

entry_small : (class : Class) (bytes : List ℕ) → AreBytes bytes → (file_header class bytes).entry < 2 ^ 64
entry_small Bits32 bytes h = let s = field_small bytes 24 4 h in let e : 256 ^ 4 ≡ 4294967296 = refl in omega (arith, s, e)
entry_small Bits64 bytes h = let s = field_small bytes 24 8 h in let e : 256 ^ 8 ≡ 18446744073709551616 = refl in
    omega (arith, s, e)

count_small : (class : Class) (bytes : List ℕ) → AreBytes bytes → (file_header class bytes).count < 65536
count_small Bits32 bytes h = let s = field_small bytes 44 2 h in let e : 256 ^ 2 ≡ 65536 = refl in omega (arith, s, e)
count_small Bits64 bytes h = let s = field_small bytes 56 2 h in let e : 256 ^ 2 ≡ 65536 = refl in omega (arith, s, e)

-- ---- no fault

-- what a used program header without a fault keeps
pub record Fine (size : ℕ) (h : ProgramHeader) : Type 0 where
  pub sized : is_sized h ≡ true
  pub whole : is_whole size h ≡ true
  pub aligned : is_aligned h ≡ true

fine : (size : ℕ) (h : ProgramHeader) → fault_of_used size h ≡ None → Fine size h
fine size h e = first (is_sized h) refl
  where
    third : (b : Bool) → is_sized h ≡ true → is_whole size h ≡ true → is_aligned h ≡ b → Fine size h
    third true s w a = record { sized = s; whole = w; aligned = a }
    third false s w a = let f : fault_of_used size h ≡ Some (fault code.Align h.first h.end) = rw (s, w, a) refl in absurd cc

    second : (b : Bool) → is_sized h ≡ true → is_whole size h ≡ b → Fine size h
    second true s w = third (is_aligned h) s w refl
    second false s w = let f : fault_of_used size h ≡ Some (short size) = rw (s, w) refl in absurd cc

    first : (b : Bool) → is_sized h ≡ b → Fine size h
    first true s = second (is_whole size h) s refl
    first false s = let f : fault_of_used size h ≡ Some (fault code.Size h.first h.end) = rw s refl in absurd cc

-- ---- sections

sound : (name : List ℕ) (vaddr size : ℕ) (write : Bool) → vaddr % 4096 ≡ 0 → 0 < size → vaddr + size < 2 ^ 64
    → is_sound (record { name = name; vaddr = vaddr; size = size; write = write; at = None }) ≡ true
sound name vaddr size write a b c = grind (arith, nat_tests)

sound_at : (name : List ℕ) (vaddr size at : ℕ) (write : Bool) → vaddr % 4096 ≡ 0 → 0 < size → vaddr + size < 2 ^ 64
    → at + size < 2 ^ 64 → is_sound (record { name = name; vaddr = vaddr; size = size; write = write; at = Some at }) ≡ true
sound_at name vaddr size at write a b c d = grind (arith, nat_tests)

page_begins : (n : ℕ) → page_down n % 4096 ≡ 0
page_begins n = omega arith

zeros_row : (h : ProgramHeader) (first : ℕ) → h.number < 2 ^ 64 → first % 4096 ≡ 0 → first < memory_end h → memory_end h < 2 ^ 64
    → HasRow (zeros h first)
zeros_row h first n a b c = record {
  named = is_name-numbered (codes "zero_") h.number refl (lit< tt) n;
  sound = sound (codes "zero_" ++ decimal h.number) first (memory_end h - first) (is_writable h) a (omega arith) (omega arith);
}

loaded_row : (h : ProgramHeader) (size : ℕ) → h.number < 2 ^ 64 → 0 < h.file → file_end h < 2 ^ 64 → h.offset + h.file ≤ size
    → size < 2 ^ 64 → h.offset % 4096 ≡ h.vaddr % 4096 → HasRow (loaded h)
loaded_row h size n a b c d e = record {
  named = is_name-numbered (codes "load_") h.number refl (lit< tt) n;
  sound = sound_at (codes "load_" ++ decimal h.number) (page_down h.vaddr) (file_end h - page_down h.vaddr)
      (h.offset - (h.vaddr - page_down h.vaddr)) (is_writable h) (page_begins h.vaddr) (omega arith) (omega arith) (omega arith);
}

-- what the tests say
sized_is : (h : ProgramHeader) → is_sized h ≡ true → (h.file ≤ h.memory) × (memory_end h < 2 ^ 64)
    × (page_up (memory_end h) < 2 ^ 64)
sized_is h e = grind (arith, and_parts, leb, nat_lt, ltb-true, leb-true)

whole_is : (h : ProgramHeader) (size : ℕ) → (h.file == 0) ≡ false → is_whole size h ≡ true → h.offset + h.file ≤ size
whole_is h size z e = leb-true (h.offset + h.file) size (rw z at e)

aligned_is : (h : ProgramHeader) → (h.file == 0) ≡ false → is_aligned h ≡ true → h.offset % 4096 ≡ h.vaddr % 4096
aligned_is h z e = eqb-true (h.offset % 4096) (h.vaddr % 4096) (rw z at e)

some_file : (n : ℕ) → (n == 0) ≡ false → 0 < n
some_file n e = grind (arith, nat_tests)

behind_rows : (h : ProgramHeader) → h.number < 2 ^ 64 → memory_end h < 2 ^ 64 → AllByRecursion HasRow (zeros_behind h)
behind_rows h n m = go (nat_lt (page_up (file_end h)) (memory_end h)) refl
  where
    go : (b : Bool) → nat_lt (page_up (file_end h)) (memory_end h) ≡ b → AllByRecursion HasRow (zeros_behind h)
    go true e = search (rules, zeros_row, page_begins, ltb-true)
    go false e = rw e tt

used_rows : (h : ProgramHeader) (size : ℕ) → h.number < 2 ^ 64 → size < 2 ^ 64 → 0 < h.memory → Fine size h
    → AllByRecursion HasRow (sections_of_used h)
used_rows h size n l m f = go (h.file == 0) refl
  where
    s : (h.file ≤ h.memory) × (memory_end h < 2 ^ 64) × (page_up (memory_end h) < 2 ^ 64)
    s = let t = sized_is h f.sized in (t.0, t.1, t.2)

    go : (b : Bool) → (h.file == 0) ≡ b → AllByRecursion HasRow (sections_of_used h)
    go true e = rw e (zeros_row h (page_down h.vaddr) n (page_begins h.vaddr) (omega arith) s.1, tt)
    go false e = search (rules, loaded_row, some_file, s, whole_is, aligned_is, behind_rows)

header_rows : (h : ProgramHeader) (size : ℕ) → h.number < 2 ^ 64 → size < 2 ^ 64 → header_fault size h ≡ None
    → AllByRecursion HasRow (sections_of h)
header_rows h size n l e = go (is_used h) refl
  where
    some : (m : ℕ) → not (m == 0) ≡ true → 0 < m
    some m q = grind (arith, nat_tests)

    go : (b : Bool) → is_used h ≡ b → AllByRecursion HasRow (sections_of h)
    go true u = search (rules, used_rows, some, and_parts, fine)
    go false u = rw u tt

all_both : (xs ys : List Section) → AllByRecursion HasRow xs → AllByRecursion HasRow ys → AllByRecursion HasRow (xs ++ ys)
all_both [] ys a b = b
all_both (x ∷ xs) ys a b = (a.0, all_both xs ys a.1 b)

number_is : (class : Class) (bytes : List ℕ) (number first : ℕ) → (program_header class bytes number first).number ≡ number
number_is Bits32 bytes number first = refl
number_is Bits64 bytes number first = refl

all_rows : (class : Class) (bytes : List ℕ) (size number first left : ℕ) → size < 2 ^ 64 → number + left < 2 ^ 64
    → headers_fault size (headers_from class bytes number first left) ≡ None
    → AllByRecursion HasRow (sections_of_all (headers_from class bytes number first left))
all_rows class bytes size number first zero l n e = tt
all_rows class bytes size number first (suc left) l n e =
    let h = program_header class bytes number first in
    let rest = headers_from class bytes (number + 1) (first + header_length class) left in
    let p = neither (header_fault size h) (headers_fault size rest) e in
    all_both (sections_of h) (sections_of_all rest)
    (header_rows h size (omega (arith, number_is class bytes number first)) l p.0)
    (all_rows class bytes size (number + 1) (first + header_length class) left l (omega arith) p.1)

-- ---- images

few_sections : (n : ℕ) (f : ElfFault) → cond (nat_lt 256 n) (Some f) None ≡ None → n ≤ 256
few_sections n f e = go (nat_lt 256 n) refl
  where
    at_most : nat_lt 256 n ≡ false → n ≤ 256
    at_most t = grind (arith, nat_tests)

    go : (b : Bool) → nat_lt 256 n ≡ b → n ≤ 256
    go true t = let s = rw t at e in absurd cc
    go false t = at_most t

class_has_table : (name bytes : List ℕ) (class : Class) → AreBytes bytes → fault_within bytes class ≡ None
    → HasTable (image_of name bytes class)
class_has_table name bytes class b e =
    let p = neither (table_fault class bytes) (option_or (headers_fault (length bytes) (headers class bytes))
    (limit_fault (headers class bytes))) e in
    let q = neither (headers_fault (length bytes) (headers class bytes)) (limit_fault (headers class bytes)) p.1 in
    record {
      entry = entry_small class bytes b;
      few = few_sections (length (sections_of_all (headers class bytes))) _ q.1;
      rows = all_rows class bytes (length bytes) 0 (file_header class bytes).table (file_header class bytes).count b.few
          (omega (arith, count_small class bytes b)) q.0;
    }

pub has_table : (name bytes : List ℕ) (image : Image) → AreBytes bytes → Elf name bytes image → HasTable image
has_table name bytes image b h =
    let none : fault_within bytes h.class ≡ None = sym (ap (fault_behind bytes) h.known) ∙ h.sound in
    subst HasTable (sym h.is) (class_has_table name bytes h.class b none)

pub name_is : (name bytes : List ℕ) (image : Image) → Elf name bytes image → image.name ≡ name
name_is name bytes image h = ap (λ (i : Image). i.name) h.is
