-- The first fault of an ELF file.
use Rattle.front_laws.proofs.Common.{Bool, Err, List, None, Option, Result, Some, [], and_from, and_parts, ap, append-nil, append_assoc, arith, at_place, below, cond, eq-eqb, eqb-false, eqb-true, false, get_behind, get_front, le-ltb, length}
use Rattle.front_laws.proofs.Common.{length-append, lt-ltb, ltb-false, ltb-true, nat_eq, nat_lt, ne_eqb, not, not-false, not-true, not_from_false, ok_or, option_or, refl, slice_get, slice_index, starts_with, subst, suc, sym, true, true≢false, zero}
use Rattle.front_laws.proofs.Common.{ℕ, rules, ◌&&◌, ◌*◌, ◌++◌, ◌+◌, ◌<◌, ◌==◌, ◌∙◌, ◌∷◌, ◌≡◌, ◌≢◌, ◌≤◌}
use Rattle.sect_table.specs.Classes.{class_of, fields_end, header_length, length_at}
use Rattle.sect_table.specs.Faults.{fault, fault_behind, fault_if, fault_within, first_fault, header_fault, headers_fault, is_aligned, is_of_another_length, is_past, is_sized, is_whole, limit_fault, magic, short}
use Rattle.sect_table.specs.ElfHeaders.{file_header, headers, headers_from, program_header}
use Rattle.sect_table.specs.ElfSections.{sections_of_all}
use Rattle.sect_table.specs.declared.class.Class.{Class}
use Rattle.sect_table.specs.declared.class.Class.TheVariants.{Bits32, Bits64}
use Rattle.sect_table.specs.declared.fault.ElfCode.TheVariants as code
use Rattle.sect_table.specs.declared.fault.ElfFault.{ElfFault}
use Rattle.sect_table.specs.declared.program_header.ProgramHeader.{ProgramHeader}
use Rattle.sect_table.specs.Tables.{sections_limit}
use Rattle.front_laws.specs.ElfFaults.{AreSoundTo, HasTable, IsElfFault, IsHeaderFault, IsOfClass, IsSoundElf, IsSoundHeader, another_length, header_at, in_header, many_sections, no_class, no_class_bytes, no_fields, no_magic, no_table, not_aligned, not_sized, not_whole}
use Rattle.front_laws.proofs.First.{IsClean, first_of, from_first, from_none, in_first, in_none}
use Rattle.front_laws.proofs.Places.{at_split}

-- ---- the table of program headers

next_place : (c : Class) (first k : ℕ) → first + header_length c + k * header_length c ≡ first + suc k * header_length c
next_place Bits32 first k = omega arith
next_place Bits64 first k = omega arith

this_place : (c : Class) (first : ℕ) → first ≡ first + 0 * header_length c
this_place Bits32 first = omega arith
this_place Bits64 first = omega arith

headers_at : (c : Class) (bytes : List ℕ) (n first left k : ℕ) → k < left
    → slice_get (headers_from c bytes n first left) k ≡ Some (program_header c bytes (n + k) (first + k * header_length c))
headers_at c bytes n first zero k l = absurd (omega (arith, l))
headers_at c bytes n first (suc left) zero l = search (rules, this_place)
headers_at c bytes n first (suc left) (suc k) l =
    let number : n + 1 + k ≡ n + suc k = omega arith in
    headers_at c bytes (n + 1) (first + header_length c) left k (omega (arith, l))
    ∙ ap (λ z. Some (program_header c bytes z (first + header_length c + k * header_length c))) number
    ∙ ap (λ z. Some (program_header c bytes (n + suc k) z)) (next_place c first k)

headers_many : (c : Class) (bytes : List ℕ) (n first left : ℕ) → length (headers_from c bytes n first left) ≡ left
headers_many c bytes n first zero = refl
headers_many c bytes n first (suc left) = let e = headers_many c bytes (n + 1) (first + header_length c) left in omega (arith, e)

header_there : (c : Class) (bytes : List ℕ) (k : ℕ) → k < (file_header c bytes).count
    → slice_get (headers c bytes) k ≡ Some (header_at c bytes k)
header_there c bytes k l = search (rules, headers_at)

-- ---- one program header

abbrev told : ProgramHeader → ℕ → Bool → Bool → Bool → Bool → Option ElfFault
told h size used sized whole aligned =
    cond used (cond (not sized) (Some (fault code.Size h.first h.end))
    (cond (not whole) (Some (short size)) (fault_if (not aligned) (fault code.Align h.first h.end)))) None

sound_from : (size : ℕ) (h : ProgramHeader) → header_fault size h ≡ None → IsSoundHeader size h
sound_from size h e = search (rules)

fault_from : (size : ℕ) (h : ProgramHeader) (f : ElfFault) → header_fault size h ≡ Some f → IsHeaderFault size h f
fault_from size h f e = search (rules)

-- ---- all of them

as_first : (size : ℕ) (before hs : List ProgramHeader) → headers_fault size hs ≡ first_of (λ b h. header_fault size h) before hs
as_first size before [] = refl
as_first size before (h ∷ hs) = ap (option_or (header_fault size h)) (as_first size (before ++ h ∷ []) hs)

-- of a front of the headers in which no fault stands, each is sound
front_sound : (bytes : List ℕ) (c : Class) (front rest : List ProgramHeader) → headers c bytes ≡ front ++ rest
    → IsClean (λ b h. header_fault (length bytes) h) [] front
    → (n : ℕ) → n ≤ length front → length front ≤ (file_header c bytes).count → AreSoundTo bytes c n
front_sound bytes c front rest e clean n l m k low =
    let x = at_place front k (omega (arith, l, low)) in let s = at_split front k x.0 x.1 in
    let there : slice_get (headers c bytes) k ≡ Some x.0 = ap (λ z. slice_get z k) e ∙ get_front front rest k x.0 x.1 in
    let own = header_there c bytes k (omega (arith, l, low, m)) in
    let same : x.0 ≡ header_at c bytes k = cc in
    subst (λ z. IsSoundHeader (length bytes) z) same (sound_from (length bytes) x.0 (clean s.0 s.1 x.0 s.2))

from_headers : (bytes : List ℕ) (c : Class) (f : ElfFault) → HasTable bytes c
    → headers_fault (length bytes) (headers c bytes) ≡ Some f → IsElfFault bytes f
from_headers bytes c f table e =
    let g : List ProgramHeader → ProgramHeader → Option ElfFault = λ b h. header_fault (length bytes) h in
    let r = from_first g [] (headers c bytes) f (sym (as_first (length bytes) [] (headers c bytes)) ∙ e) in
    let n = length r.front in
    let there : slice_get (headers c bytes) n ≡ Some r.item = ap (λ z. slice_get z n) r.split
    ∙ get_behind r.front (r.item ∷ r.rest) 0 n (omega arith) in
    let many = headers_many c bytes 0 (file_header c bytes).table (file_header c bytes).count in
    let low : n < (file_header c bytes).count = omega (arith, many, below (headers c bytes) n r.item there) in
    let own = header_there c bytes n low in
    let same : r.item ≡ header_at c bytes n = cc in
    in_header c n table low (front_sound bytes c r.front (r.item ∷ r.rest) r.split r.clean n (omega arith) (omega (arith, low)))
    (subst (λ z. IsHeaderFault (length bytes) z f) same (fault_from (length bytes) r.item f r.says))

all_sound : (bytes : List ℕ) (c : Class) → headers_fault (length bytes) (headers c bytes) ≡ None
    → AreSoundTo bytes c (file_header c bytes).count
all_sound bytes c e =
    let g : List ProgramHeader → ProgramHeader → Option ElfFault = λ b h. header_fault (length bytes) h in
    let many = headers_many c bytes 0 (file_header c bytes).table (file_header c bytes).count in
    front_sound bytes c (headers c bytes) [] (sym (append-nil (headers c bytes)))
    (from_none g [] (headers c bytes) (sym (as_first (length bytes) [] (headers c bytes)) ∙ e))
    (file_header c bytes).count (omega (arith, many)) (omega (arith, many))

-- ---- a file of a class

is_equal : (n m : ℕ) → not (n == m) ≡ false → n ≡ m
is_equal n m t = eqb-true n m (not-false (n == m) t)

second_false : (x y : Bool) → x ≡ true → (x && y) ≡ false → y ≡ false
second_false true y p q = q
second_false false y p q = cc

-- what stands behind the table: the headers, and then the limit
abbrev behind_table : List ℕ → Class → Option ElfFault
behind_table bytes c = option_or (headers_fault (length bytes) (headers c bytes)) (limit_fault (headers c bytes))

from_limit : (bytes : List ℕ) (c : Class) (f : ElfFault) → HasTable bytes c → AreSoundTo bytes c (file_header c bytes).count
    → limit_fault (headers c bytes) ≡ Some f → IsElfFault bytes f
from_limit bytes c f table sound e = by_test (nat_lt sections_limit (length (sections_of_all (headers c bytes)))) refl e
  where
    by_test : (b : Bool) → nat_lt sections_limit (length (sections_of_all (headers c bytes))) ≡ b
        → fault_if b (fault code.Limit 0 0) ≡ Some f → IsElfFault bytes f
    by_test true t e = let same : fault code.Limit 0 0 ≡ f = cc in
        many_sections c table sound (ltb-true sections_limit (length (sections_of_all (headers c bytes))) t) (sym same)
    by_test false t e = cc

from_behind : (bytes : List ℕ) (c : Class) (f : ElfFault) → HasTable bytes c → behind_table bytes c ≡ Some f → IsElfFault bytes f
from_behind bytes c f table e = by_headers (headers_fault (length bytes) (headers c bytes)) refl e
  where
    by_headers : (o : Option ElfFault) → headers_fault (length bytes) (headers c bytes) ≡ o
        → option_or o (limit_fault (headers c bytes)) ≡ Some f → IsElfFault bytes f
    by_headers None s e = from_limit bytes c f table (all_sound bytes c s) e
    by_headers (Some g) s e = from_headers bytes c f table (s ∙ e)

-- the table has what it must, where none of its tests fails
has_table : (bytes : List ℕ) (c : Class) → IsOfClass bytes c → nat_lt (length bytes) (fields_end c) ≡ false
    → is_of_another_length c (file_header c bytes) ≡ false
    → is_past (length bytes) c (file_header c bytes) ≡ false → HasTable bytes c
has_table bytes c kind a b d = search (rules, ltb-false, is_equal, second_false, not_from_false, ne_eqb, nat_lt)

from_class : (bytes : List ℕ) (c : Class) (f : ElfFault) → IsOfClass bytes c → fault_within bytes c ≡ Some f → IsElfFault bytes f
from_class bytes c f kind e =
    by_fields (nat_lt (length bytes) (fields_end c)) (is_of_another_length c (file_header c bytes))
    (is_past (length bytes) c (file_header c bytes)) refl refl refl e
  where
    by_fields : (x y z : Bool) → nat_lt (length bytes) (fields_end c) ≡ x → is_of_another_length c (file_header c bytes) ≡ y
        → is_past (length bytes) c (file_header c bytes) ≡ z
        → option_or (cond x (Some (short (length bytes))) (cond y (Some (fault code.Size (length_at c) (length_at c + 2)))
        (fault_if z (short (length bytes))))) (behind_table bytes c) ≡ Some f → IsElfFault bytes f
    by_fields true y z p q r e = let same : short (length bytes) ≡ f = cc in
        no_fields c kind (ltb-true (length bytes) (fields_end c) p) (sym same)
    by_fields false true z p q r e =
        let h = file_header c bytes in
        let parts = and_parts (not (h.count == 0)) (not (h.length == header_length c)) q in
        let same : fault code.Size (length_at c) (length_at c + 2) ≡ f = cc in
        another_length c kind (ltb-false (length bytes) (fields_end c) p) (eqb-false h.count 0 (not-true _ parts.0))
        (eqb-false h.length (header_length c) (not-true _ parts.1)) (sym same)
    by_fields false false true p q r e =
        let h = file_header c bytes in
        let parts = and_parts (not (h.count == 0)) (nat_lt (length bytes) (h.table + h.count * header_length c)) r in
        let same : short (length bytes) ≡ f = cc in
        let equal : h.length ≡ header_length c = search (rules, is_equal, second_false) in
        no_table c kind (ltb-false (length bytes) (fields_end c) p) (eqb-false h.count 0 (not-true _ parts.0)) equal
        (ltb-true (length bytes) (h.table + h.count * header_length c) parts.1) (sym same)
    by_fields false false false p q r e = from_behind bytes c f (has_table bytes c kind p q r) e

-- ---- a file

abbrev behind_magic : List ℕ → Bool → Bool → Option Class → Result Class ElfFault
behind_magic bytes a b o =
    cond (not a) (Err (fault code.Magic 0 4)) (cond b (Err (short (length bytes))) (ok_or o (fault code.Class 4 6)))

pub from_elf_fault : (bytes : List ℕ) (f : ElfFault) → first_fault bytes ≡ Some f → IsElfFault bytes f
from_elf_fault bytes f e = by_tests (starts_with nat_eq bytes magic) (nat_lt (length bytes) 6)
    (class_of (slice_index bytes 4) (slice_index bytes 5)) refl refl refl e
  where
    by_tests : (a b : Bool) (o : Option Class) → starts_with nat_eq bytes magic ≡ a → nat_lt (length bytes) 6 ≡ b
        → class_of (slice_index bytes 4) (slice_index bytes 5) ≡ o
        → fault_behind bytes (behind_magic bytes a b o) ≡ Some f → IsElfFault bytes f
    by_tests false b o p q r e = let same : fault code.Magic 0 4 ≡ f = cc in no_magic p (sym same)
    by_tests true true o p q r e = let same : short (length bytes) ≡ f = cc in
        no_class_bytes p (ltb-true (length bytes) 6 q) (sym same)
    by_tests true false None p q r e = let same : fault code.Class 4 6 ≡ f = cc in
        no_class p (ltb-false (length bytes) 6 q) r (sym same)
    by_tests true false (Some c) p q r e = search (rules, from_class, ltb-false)

-- a file without a fault
pub from_no_elf_fault : (bytes : List ℕ) → first_fault bytes ≡ None → IsSoundElf bytes
from_no_elf_fault bytes e = by_tests (starts_with nat_eq bytes magic) (nat_lt (length bytes) 6)
    (class_of (slice_index bytes 4) (slice_index bytes 5)) refl refl refl e
  where
    by_behind : (c : Class) → HasTable bytes c → (o : Option ElfFault) → headers_fault (length bytes) (headers c bytes) ≡ o
        → (b : Bool) → nat_lt sections_limit (length (sections_of_all (headers c bytes))) ≡ b
        → option_or o (fault_if b (fault code.Limit 0 0)) ≡ None → IsSoundElf bytes
    by_behind c table None s false t e = search (rules, all_sound, ltb-false)
    by_behind c table _ s _ t e = cc

    by_fields : (c : Class) → IsOfClass bytes c → (x y z : Bool) → nat_lt (length bytes) (fields_end c) ≡ x
        → is_of_another_length c (file_header c bytes) ≡ y → is_past (length bytes) c (file_header c bytes) ≡ z
        → option_or (cond x (Some (short (length bytes))) (cond y (Some (fault code.Size (length_at c) (length_at c + 2)))
        (fault_if z (short (length bytes))))) (behind_table bytes c) ≡ None → IsSoundElf bytes
    by_fields c kind false false false p q r e =
        by_behind c (has_table bytes c kind p q r) (headers_fault (length bytes) (headers c bytes)) refl
        (nat_lt sections_limit (length (sections_of_all (headers c bytes)))) refl e
    by_fields c kind _ _ _ p q r e = cc

    by_tests : (a b : Bool) (o : Option Class) → starts_with nat_eq bytes magic ≡ a → nat_lt (length bytes) 6 ≡ b
        → class_of (slice_index bytes 4) (slice_index bytes 5) ≡ o
        → fault_behind bytes (behind_magic bytes a b o) ≡ None → IsSoundElf bytes
    by_tests true false (Some c) p q r e = search (rules, by_fields, ltb-false, nat_lt)
    by_tests _ _ _ p q r e = cc

-- ---- and back

sound_header : (size : ℕ) (h : ProgramHeader) → IsSoundHeader size h → header_fault size h ≡ None
sound_header size h s = search (rules)

header_refused : (size : ℕ) (h : ProgramHeader) (f : ElfFault) → IsHeaderFault size h f → header_fault size h ≡ Some f
header_refused size h f (not_sized u a e) = ap (λ z. told h size z (is_sized h) (is_whole size h) (is_aligned h)) u
    ∙ ap (λ z. told h size true z (is_whole size h) (is_aligned h)) a ∙ ap Some (sym e)
header_refused size h f (not_whole u a b e) = search (rules)
header_refused size h f (not_aligned u a b c e) = search (rules)

-- a front of the headers, each of which is sound
sound_front : (bytes : List ℕ) (c : Class) (front rest : List ProgramHeader) → headers c bytes ≡ front ++ rest
    → AreSoundTo bytes c (length front) → IsClean (λ b h. header_fault (length bytes) h) [] front
sound_front bytes c front rest e sound p q y s =
    let k = length p in
    let many : length front ≡ k + suc (length q) = ap length s ∙ length-append p (y ∷ q) in
    let whole : headers c bytes ≡ p ++ y ∷ (q ++ rest) = e ∙ ap (λ z. z ++ rest) s ∙ append_assoc p (y ∷ q) rest in
    let there : slice_get (headers c bytes) k ≡ Some y = ap (λ z. slice_get z k) whole ∙ get_behind p (y ∷ (q ++ rest)) 0 k
    (omega arith) in
    let all = headers_many c bytes 0 (file_header c bytes).table (file_header c bytes).count in
    let own = header_there c bytes k (omega (arith, all, below (headers c bytes) k y there)) in
    let same : y ≡ header_at c bytes k = cc in
    ap (header_fault (length bytes)) same ∙ sound_header (length bytes) (header_at c bytes k) (sound k (omega (arith, many)))

in_headers : (bytes : List ℕ) (c : Class) (k : ℕ) (f : ElfFault) → k < (file_header c bytes).count → AreSoundTo bytes c k
    → IsHeaderFault (length bytes) (header_at c bytes k) f → headers_fault (length bytes) (headers c bytes) ≡ Some f
in_headers bytes c k f low sound wrong =
    let g : List ProgramHeader → ProgramHeader → Option ElfFault = λ b h. header_fault (length bytes) h in
    let x = header_at c bytes k in
    let s = at_split (headers c bytes) k x (header_there c bytes k low) in
    as_first (length bytes) [] (headers c bytes) ∙ ap (first_of g []) s.2
    ∙ in_first g [] s.0 x s.1 f (header_refused (length bytes) x f wrong)
    (sound_front bytes c s.0 (x ∷ s.1) s.2 (subst (λ z. AreSoundTo bytes c z) (sym s.3) sound))

none_in_headers : (bytes : List ℕ) (c : Class) → AreSoundTo bytes c (file_header c bytes).count
    → headers_fault (length bytes) (headers c bytes) ≡ None
none_in_headers bytes c sound =
    let g : List ProgramHeader → ProgramHeader → Option ElfFault = λ b h. header_fault (length bytes) h in
    let many = headers_many c bytes 0 (file_header c bytes).table (file_header c bytes).count in
    as_first (length bytes) [] (headers c bytes)
    ∙ in_none g [] (headers c bytes) (sound_front bytes c (headers c bytes) [] (sym (append-nil (headers c bytes)))
    (subst (λ z. AreSoundTo bytes c z) (sym many) sound))

abbrev table_told : List ℕ → Class → Bool → Bool → Bool → Option ElfFault
table_told bytes c x y z = cond x (Some (short (length bytes))) (cond y (Some (fault code.Size (length_at c) (length_at c + 2)))
    (fault_if z (short (length bytes))))

abbrev class_told : List ℕ → Class → Bool → Bool → Bool → Option ElfFault
class_told bytes c x y z = option_or (table_told bytes c x y z) (behind_table bytes c)

-- what is told of a file of a class, by the tests of its table
of_class : (bytes : List ℕ) (c : Class) → IsOfClass bytes c → first_fault bytes ≡ fault_within bytes c
of_class bytes c k = search (rules, nat_lt, le-ltb)

none_of_both : (x y : Bool) → ((x ≡ true) → y ≡ false) → (x && y) ≡ false
none_of_both true y f = f refl
none_of_both false y f = refl

with_table : (bytes : List ℕ) (c : Class) → HasTable bytes c → first_fault bytes ≡ behind_table bytes c
with_table bytes c t =
    let h = file_header c bytes in
    let a : nat_lt (length bytes) (fields_end c) ≡ false = le-ltb (length bytes) (fields_end c) t.fields in
    let b : is_of_another_length c h ≡ false = none_of_both (not (h.count == 0)) (not (h.length == header_length c))
    (λ n. ap not (eq-eqb h.length (header_length c) (t.size (eqb-false h.count 0 (not-true _ n))))) in
    let d : is_past (length bytes) c h ≡ false = search (rules, none_of_both, nat_lt, le-ltb, eqb-false, not-true) in
    of_class bytes c t.kind ∙ ap (λ x. class_told bytes c x (is_of_another_length c h) (is_past (length bytes) c h)) a
    ∙ ap (λ y. class_told bytes c false y (is_past (length bytes) c h)) b ∙ ap (λ z. class_told bytes c false false z) d

pub in_elf_fault : (bytes : List ℕ) (f : ElfFault) → IsElfFault bytes f → first_fault bytes ≡ Some f
in_elf_fault bytes f (no_magic a e) = search (rules, nat_lt)
in_elf_fault bytes f (no_class_bytes a l e) = search (rules, nat_lt, lt-ltb)
in_elf_fault bytes f (no_class a l o e) = search (rules, nat_lt, le-ltb)
in_elf_fault bytes f (no_fields c k l e) = search (rules, of_class, lt-ltb)
in_elf_fault bytes f (another_length c k l n w e) = search (rules, not_from_false, ne_eqb, of_class, le-ltb, and_from)
in_elf_fault bytes f (no_table c k l n s p e) =
    search (rules, none_of_both, eq-eqb, of_class, le-ltb, and_from, nat_lt, not_from_false, ne_eqb, lt-ltb)
in_elf_fault bytes f (in_header c k t low sound wrong) =
    with_table bytes c t ∙ ap (λ o. option_or o (limit_fault (headers c bytes))) (in_headers bytes c k f low sound wrong)
in_elf_fault bytes f (many_sections c t sound l e) = search (rules, with_table, none_in_headers, lt-ltb)

pub in_no_elf_fault : (bytes : List ℕ) → IsSoundElf bytes → first_fault bytes ≡ None
in_no_elf_fault bytes s = search (rules, with_table, none_in_headers, le-ltb)
