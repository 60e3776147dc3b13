-- The text of a path of at most 16 identifiers is a label's name.
use Rattle.std.proofs.Common.{rules}
use Rattle.camkes_tool.proofs.BackCommon.{IsIdentifier, IsIn, List, Name, Path, [], and_from, and_parts, arith, flat_map, inl, inr, is_label_byte, is_label_name, is_letter, is_word_byte, joined, le-leb, leb, leb-true, length, length-append, list_all}
use Rattle.camkes_tool.proofs.BackCommon.{mul-suc, nat_le, or_left, refl, true, ℕ, ◌&&◌, ◌*◌, ◌==◌, ◌∙◌, ◌∷◌, ◌≡◌, ◌≢◌, ◌≤◌}
use Rattle.std.proofs.lemmas.List.Folds.{list_all-append}

-- ---- identifiers

word_bytes : (bs : List ℕ) → list_all is_word_byte bs ≡ true → list_all is_label_byte bs ≡ true
word_bytes [] h = refl
word_bytes (b ∷ bs) h =
    let p = and_parts (is_word_byte b) (list_all is_word_byte bs) h in
    and_from (is_label_byte b) (list_all is_label_byte bs) (or_left (is_word_byte b) (b == 46) p.0) (word_bytes bs p.1)

-- a name has 1 to 127 bytes, each of which a label's name may have
pub record IsPart (n : Name) : Type 0 where
  pub some : 1 ≤ length n
  pub few : length n ≤ 127
  pub bytes : list_all is_label_byte n ≡ true

pub name_part : (n : Name) → IsIdentifier n → IsPart n
name_part [] h = absurd cc
name_part (b ∷ bs) h =
    let p = and_parts (leb (length bs) 126) (is_letter b && list_all is_word_byte bs) h in
    let q = and_parts (is_letter b) (list_all is_word_byte bs) p.1 in
    let few = leb-true (length bs) 126 p.0 in
    search (rules, and_from, is_label_byte, list_all, or_left, is_word_byte, is_letter, word_bytes)

-- ---- texts of paths

abbrev dotted : List Name → List ℕ
dotted ns = flat_map (λ m. 46 ∷ m) ns

dotted_bytes : (ns : List Name) → ((n : Name) → IsIn n ns → IsIdentifier n) → list_all is_label_byte (dotted ns) ≡ true
dotted_bytes [] h = refl
dotted_bytes (n ∷ ns) h =
    list_all-append is_label_byte (46 ∷ n) (dotted ns)
    ∙ and_from (list_all is_label_byte (46 ∷ n)) (list_all is_label_byte (dotted ns))
    (and_from (is_label_byte 46) (list_all is_label_byte n) refl (name_part n (h n (inl refl))).bytes)
    (dotted_bytes ns (λ m i. h m (inr i)))

dotted_length : (ns : List Name) → ((n : Name) → IsIn n ns → IsIdentifier n) → length (dotted ns) ≤ 128 * length ns
dotted_length [] h = omega arith
dotted_length (n ∷ ns) h =
    let parts = length-append (46 ∷ n) (dotted ns) in
    let first = (name_part n (h n (inl refl))).few in
    let rest = dotted_length ns (λ m i. h m (inr i)) in
    let all = mul-suc 128 (length ns) in
    omega (arith, parts, first, rest, all)

-- a label's name, which isn't long
pub record IsShortName (text : List ℕ) : Type 0 where
  pub name : is_label_name text ≡ true
  pub short : length text ≤ 2047

pub path_named : (p : Path) → p ≢ [] → length p ≤ 16 → ((n : Name) → IsIn n p → IsIdentifier n) → IsShortName (joined p)
path_named [] some few h = absurd (some refl)
path_named (n ∷ ns) some few h =
    let first = name_part n (h n (inl refl)) in
    let behind : (m : Name) → IsIn m ns → IsIdentifier m = λ m i. h m (inr i) in
    let parts = length-append n (dotted ns) in
    let rest = dotted_length ns behind in
    let one = first.some in
    let most = first.few in
    let low : 1 ≤ length (joined (n ∷ ns)) = omega (arith, parts, one) in
    let short : length (joined (n ∷ ns)) ≤ 2047 = omega (arith, parts, most, rest, few) in
    let bytes : list_all is_label_byte (joined (n ∷ ns)) ≡ true =
    search (rules, list_all-append, is_label_byte, and_from, list_all, dotted_bytes) in
    search (rules, and_from, nat_le, joined, list_all, is_label_byte, le-leb)
