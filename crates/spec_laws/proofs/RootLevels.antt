-- The root of a space stands first among its tables, and is the only one of its level
use Rattle.spec_laws.proofs.Common.{Aarch64, Arch, Arm11, Bool, Cap, Directory, Global, IsIn, Layer, Level, List, Mapping, Object, Pages, Shape, Some, Table, Upper, [], ap, arith, before, cond, count_by, false, gather, is_of, is_root_level, layer}
use Rattle.spec_laws.proofs.Common.{length, length_append, level_number, level_of, level_series, map, one_root, page_table, page_tables, put_front, refl, root_first, root_series, root_span, runs, shape, shapes, sizes, slice_get, span, subst, suc}
use Rattle.spec_laws.proofs.Common.{sum_by-append, sum_by-cons, sym, table_of, tables_of, take, true, under, upper, upper_below, uppers, zero, ℕ, ◌++◌, ◌+◌, ◌<◌, ◌==◌, ◌^◌, ◌∙◌, ◌∷◌, ◌≡◌, ◌≤◌, inl, inr}
use Rattle.page_tables.specs.Levels.{numbered}
use Rattle.std.proofs.lemmas.Bool.{cases_Bool}

abbrev pub root_level : Arch → Level
root_level Arm11 = Directory
root_level Aarch64 = Global

pub root_whole : (a : Arch) → is_root_level a (root_level a) ≡ true
root_whole Arm11 = refl
root_whole Aarch64 = refl

pub root_named : (a : Arch) → level_series (root_level a) ≡ root_series a
root_named Arm11 = refl
root_named Aarch64 = refl

-- ---- counts

abbrev pub ones : {X : Type 0} → (X → Bool) → X → ℕ
ones p x = cond (p x) 1 0

count_append : {X : Type 0} (p : X → Bool) (xs ys : List X) → count_by p (xs ++ ys) ≡ count_by p xs + count_by p ys
count_append p xs ys = sum_by-append (ones p) xs ys

pub count_cons : {X : Type 0} (p : X → Bool) (x : X) (xs : List X) → count_by p (x ∷ xs) ≡ ones p x + count_by p xs
count_cons p x xs = sum_by-cons (ones p) x xs

abbrev at_level : Level → Object → Bool
at_level l o = level_number (level_of o) == level_number l

count_tables : (l : Level) (d : ℕ) (g : ℕ → ℕ) (os : List Object)
    → count_by (is_of l) (gather (λ j o. page_table d (g j) (level_of o) ∷ []) os) ≡ count_by (at_level l) os
count_tables l d g [] = refl
count_tables l d g (o ∷ os) =
    count_cons (is_of l) (page_table d (g 0) (level_of o)) (gather (λ j z. page_table d (g (suc j)) (level_of z) ∷ []) os)
    ∙ ap (λ z. ones (at_level l) o + z) (count_tables l d (λ j. g (suc j)) os) ∙ sym (count_cons (at_level l) o os)

count_all : (l : Level) (s : Shape) (link : ℕ) (rs : List (List Mapping)) → (level_number s.level == level_number l) ≡ true
    → count_by (at_level l) (map (table_of s link) rs) ≡ length rs
count_all l s link [] h = refl
count_all l s link (r ∷ rs) h =
    let one : ones (at_level l) (table_of s link r) ≡ 1 = ap (λ b. cond b 1 0) h in
    omega (arith, count_all l s link rs h, count_cons (at_level l) (table_of s link r) (map (table_of s link) rs), one)

count_none : (l : Level) (s : Shape) (link : ℕ) (rs : List (List Mapping)) → (level_number s.level == level_number l) ≡ false
    → count_by (at_level l) (map (table_of s link) rs) ≡ 0
count_none l s link [] h = refl
count_none l s link (r ∷ rs) h =
    let no : ones (at_level l) (table_of s link r) ≡ 0 = ap (λ b. cond b 1 0) h in
    omega (arith, count_none l s link rs h, count_cons (at_level l) (table_of s link r) (map (table_of s link) rs), no)

-- ---- mappings below a bound, one at least

pub record Fine (bound : ℕ) (xs : List Mapping) : Type 0 where
  pub first : Mapping
  pub rest : List Mapping
  pub is : xs ≡ first ∷ rest
  pub low : (x : Mapping) → IsIn x xs → x.at < bound

abbrev up : Shape → List Mapping → List Mapping
up l xs = uppers l (runs (span l) xs)

some_run : (sp : ℕ) (x : Mapping) (rs : List (List Mapping)) → (r : List Mapping) × (more : List (List Mapping))
    × (put_front sp x rs ≡ r ∷ more)
some_run sp x [] = (x ∷ [], [], refl)
some_run sp x (r ∷ rs) =
    elim (cases_Bool (under sp x r)) [ inl g ↦ rw g (x ∷ r, rs, refl) | inr g ↦ rw g (x ∷ [], r ∷ rs, refl) ]

fine_up : (l : Shape) (bound : ℕ) (xs : List Mapping) → 0 < bound → Fine bound xs → Fine bound (up l xs)
fine_up l bound xs some f =
    let r = some_run (span l) f.first (runs (span l) f.rest) in
    let is : up l xs ≡ uppers l (r.0 ∷ r.1) = ap (λ z. up l z) f.is ∙ ap (λ z. uppers l z) r.2 in
    record {
      first = upper l 0 r.0;
      rest = gather (λ j z. upper l (suc j) z ∷ []) r.1;
      is = is;
      low = upper_below l xs bound some f.low;
    }

fine_one : (l : Shape) (xs : List Mapping) → Fine (span l) xs → length (runs (span l) xs) ≡ 1
fine_one l xs f =
    let P : List Mapping → Type 0 = λ z. (y : Mapping) → IsIn y z → y.at < span l in
    ap (λ z. length (runs (span l) z)) f.is ∙ ap (λ rs. length rs) (one_root (span l) f.first f.rest (subst P f.is f.low))

-- ---- the root

pub first_table : (a : Arch) (first : ℕ) (xs : List Mapping) → Fine (root_span (shapes a)) xs
    → (slots : List (ℕ × Cap)) × (slice_get (tables_of first (shapes a) xs) 0 ≡ Some (Pages (root_level a) slots))
first_table Arm11 first xs f =
    let l = shape Directory (2 ^ 20) 4096 in
    let P : List Mapping → Type 0 = λ z. (y : Mapping) → IsIn y z → y.at < span l in
    let r = root_first (shape Table (2 ^ 12) 256 ∷ []) l f.first f.rest first (subst P f.is f.low) in
    (r.0, ap (λ z. slice_get (tables_of first (shapes Arm11) z) 0) f.is ∙ r.1)
first_table Aarch64 first xs f =
    let l = shape Global (2 ^ 39) 512 in
    let r = root_first (shape Table (2 ^ 12) 512 ∷ shape Directory (2 ^ 21) 512 ∷ shape Upper (2 ^ 30) 512 ∷ []) l f.first f.rest
    first (subst (λ z. (y : Mapping) → IsIn y z → y.at < span l) f.is f.low) in
    (r.0, ap (λ z. slice_get (tables_of first (shapes Aarch64) z) 0) f.is ∙ r.1)

-- a lower level adds none
lower : (l : Level) (first link : ℕ) (y : Layer) (ys : List Layer) → (level_number y.shape.level == level_number l) ≡ false
    → count_by (at_level l) (numbered first link (y ∷ ys)) ≡ count_by (at_level l) (numbered first (first + sizes ys) ys)
lower l first link y ys h = grind (arith, count_append, count_none)

last : (l : Level) (first link : ℕ) (y : Layer) → (level_number y.shape.level == level_number l) ≡ true
    → count_by (at_level l) (numbered first link (y ∷ [])) ≡ length y.tables
last l first link y h = count_all l y.shape link y.tables h

pub one_of_level : (a : Arch) (xs : List Mapping) → Fine (root_span (shapes a)) xs
    → count_by (at_level (root_level a)) (tables_of 0 (shapes a) xs) ≡ 1
one_of_level Arm11 xs f =
    let s = shape Table (2 ^ 12) 256 in let r = shape Directory (2 ^ 20) 4096 in
    let a = up s xs in
    let ys = layer r (runs (span r) a) ∷ [] in
    lower Directory 0 0 (layer s (runs (span s) xs)) ys refl ∙ last Directory 0 (0 + sizes ys) (layer r (runs (span r) a)) refl
    ∙ fine_one r a (fine_up s (span r) xs (omega arith) f)
one_of_level Aarch64 xs f =
    let s = shape Table (2 ^ 12) 512 in let d = shape Directory (2 ^ 21) 512 in
    let u = shape Upper (2 ^ 30) 512 in let r = shape Global (2 ^ 39) 512 in
    let a = up s xs in let b = up d a in
    let c = up u b in
    let top = layer r (runs (span r) c) ∷ [] in
    let high = layer u (runs (span u) b) ∷ top in let mid = layer d (runs (span d) a) ∷ high in
    let fa = fine_up s (span r) xs (omega arith) f in
    lower Global 0 0 (layer s (runs (span s) xs)) mid refl ∙ lower Global 0 (0 + sizes mid) (layer d (runs (span d) a)) high refl
    ∙ lower Global 0 (0 + sizes high) (layer u (runs (span u) b)) top refl ∙ last Global 0 (0 + sizes top)
    (layer r (runs (span r) c)) refl ∙ fine_one r c (fine_up u (span r) b (omega arith) (fine_up d (span r) a (omega arith) fa))

-- ---- over domains

take_more : {X : Type 0} (xs ys : List X) (n : ℕ) → take (length xs + n) (xs ++ ys) ≡ xs ++ take n ys
take_more [] ys n = let e : 0 + n ≡ n = omega arith in ap (λ z. take z ys) e
take_more (x ∷ xs) ys n =
    let e : suc (length xs) + n ≡ suc (length xs + n) = omega arith in
    ap (λ z. take z (x ∷ (xs ++ ys))) e ∙ ap (λ z. x ∷ z) (take_more xs ys n)

pub take_before : {X Y : Type 0} (f : ℕ → X → List Y) (xs : List X) (k : ℕ)
    → take (before f xs k) (gather f xs) ≡ gather f (take k xs)
take_before f xs zero = refl
take_before f [] (suc k) = refl
take_before {X} {Y} f (x ∷ xs) (suc k) =
    let g : ℕ → X → List Y = λ n z. f (suc n) z in
    ap (λ z. take z (f 0 x ++ gather g xs)) (length_append (f 0 x) (gather g (take k xs)))
    ∙ take_more (f 0 x) (gather g xs) (before g xs k) ∙ ap (λ z. f 0 x ++ z) (take_before g xs k)

pub count_each : {X Y : Type 0} (p : Y → Bool) (f : ℕ → X → List Y) (xs : List X) (k : ℕ)
    → ((n : ℕ) (x : X) → slice_get xs n ≡ Some x → count_by p (f n x) ≡ 1) → k ≤ length xs → count_by p (gather f (take k xs)) ≡ k
count_each p f xs zero h l = refl
count_each p f [] (suc k) h l = absurd (omega (arith, l))
count_each {X} {Y} p f (x ∷ xs) (suc k) h l =
    let g : ℕ → X → List Y = λ n z. f (suc n) z in
    let ih = count_each p g xs k (λ n z e. h (suc n) z e) (omega (arith, l)) in
    omega (arith, ih, count_append p (f 0 x) (gather g (take k xs)), h 0 x refl)

pub one_in_domain : (a : Arch) (d : ℕ) (xs : List Mapping) → Fine (root_span (shapes a)) xs
    → count_by (is_of (root_level a)) (page_tables d (tables_of 0 (shapes a) xs)) ≡ 1
one_in_domain a d xs f = count_tables (root_level a) d (λ j. j) (tables_of 0 (shapes a) xs) ∙ one_of_level a xs f
