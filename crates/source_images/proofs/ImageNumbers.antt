-- Where no fault of section tables stands, there is an image for each type.
use Rattle.source_images.proofs.Common.{Arch, AreNumbered, Bool, Fault, Flat, Found, Header, Image, IsIn, Line, List, Name, None, Option, Place, Some, Source, [], absent, ap, append_assoc, arith, bad_line, bytes_eq, cond, cons_option, false}
use Rattle.source_images.proofs.Common.{fault_in, filter_map, first_arch, first_bad, first_fault, first_table_fault, firsts, flat_map, folder_of, header_of, image, image_in, image_of, images_in, images_of, inl, inr, is_some, least-empty, length}
use Rattle.source_images.proofs.Common.{length-append, length-filter_map, length-map, line_fault, line_faults, lines, listed, map, missing, missing_at, nat_tests, nil_append, none_in, option_and_then, option_map, option_map_or, option_or, other_arch}
use Rattle.source_images.proofs.Common.{place_of, position, position_from, position_from-zero, refl, section_at, section_of, slice_get, spaced_fields, subst, suc, sym, table, table_faults, table_name, table_names, too_long, true, true≢false}
use Rattle.source_images.proofs.Common.{type_number, type_of, types, zero, zip, ℕ, ◌++◌, ◌+◌, ◌<◌, ◌∙◌, ◌∷◌, ◌≡◌, ◌≤◌, ◌⊎◌}
use Rattle.std.proofs.lemmas.Slice.Eq.{bytes_eq-Decides}
use Rattle.std.specs.Prelude.{nat_lt}
use Rattle.std.proofs.lemmas.List.Quantifiers.{position-Some}
use Rattle.cspace_layout.specs.Within.{IsWithin}
use Rattle.sect_table.specs.Tables.{sections_of}
use Rattle.source_images.specs.TableFaults.{leaf_faults}
use Rattle.source_images.proofs.Soundness.{in_cons}
use Rattle.source_images.proofs.Typing.{behind, firsts-behind, has, position-push}

-- ---- counts

behind_few : (names xs : List Name) → length (behind names xs) ≤ length xs
behind_few names [] = omega arith
behind_few names (x ∷ xs) = by_test (has names x) (behind_few names xs) (behind_few (names ++ x ∷ []) xs)
  where
    by_test : (b : Bool) → length (behind names xs) ≤ length xs → length (behind (names ++ x ∷ []) xs) ≤ length xs
        → length (cond b (behind names xs) (x ∷ behind (names ++ x ∷ []) xs)) ≤ length (x ∷ xs)
    by_test true a b = omega arith
    by_test false a b = omega arith

pub firsts_few : (xs : List Name) → length (firsts bytes_eq xs) ≤ length xs
firsts_few xs = subst (λ z. length z ≤ length xs) (sym (firsts-behind xs)) (behind_few [] xs)

-- ---- sections

section_few : (k : ℕ) (line : Line) → is_some (section_at k line) ≡ true → k < 256
section_few k line e = by_test (nat_lt k 256) refl e
  where
    by_test : (b : Bool) → nat_lt k 256 ≡ b → is_some (cond b (section_of (spaced_fields line.text)) None) ≡ true → k < 256
    by_test true lt q = grind (arith, nat_tests)
    by_test false lt q = absurd (true≢false (sym q))

lines_few : (k : ℕ) (ls : List Line) → first_bad k ls ≡ None → k ≤ 256 → k + length ls ≤ 256
lines_few k [] e h = omega arith
lines_few k (line ∷ ls) e h = by_test (is_some (section_at k line)) refl e (λ q lt. lines_few (k + 1) ls q lt)
  where
    by_test : (b : Bool) → is_some (section_at k line) ≡ b → cond b (first_bad (k + 1) ls) (Some line) ≡ None
        → (first_bad (k + 1) ls ≡ None → k + 1 ≤ 256 → (k + 1) + length ls ≤ 256) → k + length (line ∷ ls) ≤ 256
    by_test true is q more = let lt : k < 256 = section_few k line is in let r : (k + 1) + length ls ≤ 256 =
        more q (omega arith) in omega arith
    by_test false is q more = absurd (cc)

-- a table without a fault has an image, with few sections
pub sound_table : (file : ℕ) (name : Name) (bytes : List ℕ) → first_fault file bytes ≡ None
    → (i : Image) × (image_of name bytes ≡ Some i) × (length i.sections ≤ 256)
sound_table file name bytes e = by_lines (lines bytes) e
  where
    by_header : (line : Line) (more : List Line) (h : Option Header) (b : Option Line) → first_bad 0 more ≡ b
        → cond (is_some h) (option_map (bad_line file) b) (Some (bad_line file line)) ≡ None
        → (i : Image) × (option_map (image name more) h ≡ Some i) × (length i.sections ≤ 256)
    by_header line more None b is q = absurd (cc)
    by_header line more (Some h) (Some l) is q = absurd (cc)
    by_header line more (Some h) None is q =
        let few : 0 + length more ≤ 256 = lines_few 0 more is (omega arith) in
        let less : length (sections_of more) ≤ length more =
        length-filter_map (λ (l : Line). section_of (spaced_fields l.text)) more in
        (image name more h, refl, omega arith)

    by_lines : (ls : List Line) → fault_in file (length bytes) ls ≡ None → (i : Image) × (image_in name ls ≡ Some i)
        × (length i.sections ≤ 256)
    by_lines [] q = absurd (cc)
    by_lines (line ∷ more) q = by_header line more (header_of (spaced_fields line.text)) (first_bad 0 more) refl q

-- ---- tables

-- every one is a table, without a fault
abbrev pub AreTables : ℕ → List Found → Type 0
AreTables n [] = Unit {0}
AreTables n (absent ∷ all) = ⊥
AreTables n (too_long ∷ all) = ⊥
AreTables n (table bytes ∷ all) = (first_fault n bytes ≡ None) × AreTables (n + 1) all

or_none : (a b : Option Fault) → option_or a b ≡ None → a ≡ None
or_none None b e = refl
or_none (Some f) b e = absurd (cc)

no_listed : (o : Option Fault) (fs : List Fault) → listed o ++ fs ≡ [] → (o ≡ None) × (fs ≡ [])
no_listed None fs e = (refl, e)
no_listed (Some f) fs e = absurd (cc)

-- of an entry, for a leaf whose type has its number
nothing_missing : (place : Place) (file : List ℕ) (x : Found) → missing place (file, x) ≡ []
    → (bytes : List ℕ) × (x ≡ table bytes)
nothing_missing place file absent e = absurd (cc)
nothing_missing place file too_long e = absurd (cc)
nothing_missing place file (table bytes) e = (bytes, refl)

are_tables : (first : Option Arch) (n : ℕ) (all : List Found) → line_faults first n all ≡ []
    → ((j : ℕ) → j < length all → (bytes : List ℕ) × (slice_get all j ≡ Some (table bytes))) → AreTables n all
are_tables first n [] e each = tt
are_tables first n (absent ∷ all) e each = let r = each 0 (omega arith) in
    absurd (let q : Some absent ≡ Some (table r.0) = r.1 in cc)
are_tables first n (too_long ∷ all) e each = let r = each 0 (omega arith) in
    absurd (let q : Some too_long ≡ Some (table r.0) = r.1 in cc)
are_tables first n (table bytes ∷ all) e each =
    let r = no_listed (line_fault first n (table bytes)) (line_faults first (n + 1) all) e in (
      or_none (first_fault n bytes) (other_arch first n bytes) r.0,
      are_tables first (n + 1) all r.1
          (λ j lt. each (suc j) (omega arith)),
    )

-- there are as many images as types
pub images_count : (n : ℕ) (names : List Name) (all : List Found) → length names ≡ length all → AreTables n all
    → length (images_in names all) ≡ length names
images_count n [] all e a = refl
images_count n (name ∷ names) [] e a = absurd (omega arith)
images_count n (name ∷ names) (absent ∷ all) e a = absurd a
images_count n (name ∷ names) (too_long ∷ all) e a = absurd a
images_count n (name ∷ names) (table bytes ∷ all) e a =
    let s = sound_table n name bytes a.0 in
    ap (λ o. length (cons_option o (images_in names all))) s.1 ∙ omega (arith, images_count (n + 1) names all (omega arith) a.1)

-- each with few sections
pub images_few : (n : ℕ) (names : List Name) (all : List Found) → AreTables n all → (m : ℕ) (i : Image)
    → slice_get (images_in names all) m ≡ Some i → length i.sections ≤ 256
images_few n [] all a m i e = absurd (cc)
images_few n (name ∷ names) [] a m i e = absurd (cc)
images_few n (name ∷ names) (absent ∷ all) a m i e = absurd a
images_few n (name ∷ names) (too_long ∷ all) a m i e = absurd a
images_few n (name ∷ names) (table bytes ∷ all) a m i e =
    let s = sound_table n name bytes a.0 in
    by_place m (sym (ap (λ o. slice_get (cons_option o (images_in names all)) m) s.1) ∙ e)
    (λ k q. images_few (n + 1) names all a.1 k i q)
  where
    by_place : (k : ℕ) → slice_get ((sound_table n name bytes a.0).0 ∷ images_in names all) k ≡ Some i
        → ((j : ℕ) → slice_get (images_in names all) j ≡ Some i → length i.sections ≤ 256) → length i.sections ≤ 256
    by_place zero q more = let same : (sound_table n name bytes a.0).0 ≡ i = cc in
        subst (λ (z : Image). length z.sections ≤ 256) same (sound_table n name bytes a.0).2
    by_place (suc k) q more = more k q

-- ---- each type is that of a leaf

abbrev Named : List Name → List Name → ℕ → Type 0
Named xs all j = (x : Name) × IsIn x xs × (position (bytes_eq x) all ≡ Some j)

stays_from : {X : Type 0} (p : X → Bool) (i : ℕ) (xs ys : List X) (j : ℕ) → position_from p i xs ≡ Some j
    → position_from p i (xs ++ ys) ≡ Some j
stays_from p i [] ys j e = absurd (cc)
stays_from p i (x ∷ xs) ys j e = by_test (p x) e (λ q. stays_from p (i + 1) xs ys j q)
  where
    by_test : (b : Bool) → cond b (Some i) (position_from p (i + 1) xs) ≡ Some j
        → (position_from p (i + 1) xs ≡ Some j → position_from p (i + 1) (xs ++ ys) ≡ Some j)
        → cond b (Some i) (position_from p (i + 1) (xs ++ ys)) ≡ Some j
    by_test true q more = q
    by_test false q more = more q

position_stays : {X : Type 0} (p : X → Bool) (xs ys : List X) (j : ℕ) → position p xs ≡ Some j → position p (xs ++ ys) ≡ Some j
position_stays p xs ys j e = position_from-zero p (xs ++ ys) ∙ stays_from p 0 xs ys j (sym (position_from-zero p xs) ∙ e)

itself : (x : Name) → bytes_eq x x ≡ true
itself x = (bytes_eq-Decides x x).1 refl

not_some : (o : Option ℕ) (n : ℕ) → is_some o ≡ false → option_or o (Some n) ≡ Some n
not_some None n e = refl
not_some (Some m) n e = absurd (true≢false e)

position_new : (names ys : List Name) (x : Name) → has names x ≡ false
    → position (bytes_eq x) (names ++ x ∷ ys) ≡ Some (length names)
position_new names ys x e =
    ap (position (bytes_eq x)) (sym (append_assoc names (x ∷ []) ys))
    ∙ position_stays (bytes_eq x) (names ++ x ∷ []) ys (length names)
    (position-push (bytes_eq x) names x ∙ ap (λ b. option_or (position (bytes_eq x) names) (cond b (Some (length names)) None))
    (itself x) ∙ not_some (position (bytes_eq x) names) (length names) e)

lt_next : (n j : ℕ) → nat_lt n j ≡ true → n + 1 ≤ j
lt_next n j h = grind (arith, nat_tests)

le_both : (n j : ℕ) → nat_lt n j ≡ false → n ≤ j → n ≡ j
le_both n j h k = grind (arith, nat_tests)

more_named : (xs all other : List Name) (x : Name) (j : ℕ) → all ≡ other → Named xs all j → Named (x ∷ xs) other j
more_named xs all other x j e n = (n.0, inr n.1, sym (ap (position (bytes_eq n.0)) e) ∙ n.2)

new_named : (names xs : List Name) (x : Name) (j : ℕ) → has names x ≡ false → length names ≤ j
    → (length names + 1 ≤ j → Named xs ((names ++ x ∷ []) ++ behind (names ++ x ∷ []) xs) j)
    → Named (x ∷ xs) (names ++ x ∷ behind (names ++ x ∷ []) xs) j
new_named names xs x j e from more = by_test (nat_lt (length names) j) refl
  where
    by_test : (b : Bool) → nat_lt (length names) j ≡ b → Named (x ∷ xs) (names ++ x ∷ behind (names ++ x ∷ []) xs) j
    by_test true h = more_named xs _ _ x j (append_assoc names (x ∷ []) (behind (names ++ x ∷ []) xs))
        (more (lt_next (length names) j h))
    by_test false h = (
      x,
      inl refl,
      position_new names (behind (names ++ x ∷ []) xs) x e
          ∙ ap (λ k. Some k) (le_both (length names) j h from),
    )

named_behind : (names xs : List Name) (j : ℕ) → length names ≤ j → j < length (names ++ behind names xs)
    → Named xs (names ++ behind names xs) j
named_behind names [] j from lt = absurd (omega (arith, length-append names []))
named_behind names (x ∷ xs) j from lt =
    by_test (has names x) refl lt (λ q. named_behind names xs j from q)
    (λ f q. named_behind (names ++ x ∷ []) xs j (omega (arith, f, length-append names (x ∷ []))) q)
  where
    by_test : (b : Bool) → has names x ≡ b → j < length (names ++ cond b (behind names xs) (x ∷ behind (names ++ x ∷ []) xs))
        → (j < length (names ++ behind names xs) → Named xs (names ++ behind names xs) j)
        → (length names + 1 ≤ j → j < length ((names ++ x ∷ []) ++ behind (names ++ x ∷ []) xs)
        → Named xs ((names ++ x ∷ []) ++ behind (names ++ x ∷ []) xs) j)
        → Named (x ∷ xs) (names ++ behind names (x ∷ xs)) j
    by_test true e q kept new =
        more_named xs _ _ x j (ap (λ b. names ++ cond b (behind names xs) (x ∷ behind (names ++ x ∷ []) xs)) (sym e)) (kept q)
    by_test false e q kept new =
        subst (λ b. Named (x ∷ xs) (names ++ cond b (behind names xs) (x ∷ behind (names ++ x ∷ []) xs)) j) (sym e)
        (new_named names xs x j e from
        (λ f. new f (subst (λ z. j < length z) (sym (append_assoc names (x ∷ []) (behind (names ++ x ∷ []) xs))) q)))

pub each_named : (xs : List Name) (j : ℕ) → j < length (firsts bytes_eq xs)
    → (x : Name) × IsIn x xs × (position (bytes_eq x) (firsts bytes_eq xs) ≡ Some j)
each_named xs j lt =
    let n = named_behind [] xs j (omega arith) (subst (λ z. j < length z) (firsts-behind xs) lt) in
    (n.0, n.1, ap (position (bytes_eq n.0)) (firsts-behind xs) ∙ n.2)

-- ---- leaves

pub in_filter : {X Y : Type 0} (h : X → Option Y) (xs : List X) (y : Y) → IsIn y (filter_map h xs)
    → (x : X) × IsIn x xs × (h x ≡ Some y)
in_filter h [] y i = absurd i
in_filter {X} {Y} h (x ∷ xs) y i = by_place (in_cons (h x) (filter_map h xs) y i) (λ j. in_filter h xs y j)
  where
    by_place : (h x ≡ Some y) ⊎ IsIn y (filter_map h xs) → (IsIn y (filter_map h xs) → (z : X) × IsIn z xs × (h z ≡ Some y))
        → (z : X) × IsIn z (x ∷ xs) × (h z ≡ Some y)
    by_place (inl e) more = (x, inl refl, e)
    by_place (inr j) more = let r = more j in (r.0, inr r.1, r.2)

zip_at : (files : List (List ℕ)) (all : List Found) (j : ℕ) → j < length files → j < length all → (file : List ℕ) × (x : Found)
    × (slice_get (zip files all) j ≡ Some (file, x)) × (slice_get all j ≡ Some x)
zip_at [] all j a b = absurd (omega arith)
zip_at (f ∷ files) [] j a b = absurd (omega arith)
zip_at (f ∷ files) (x ∷ all) zero a b = (f, x, refl, refl)
zip_at (f ∷ files) (x ∷ all) (suc j) a b = zip_at files all j (omega arith) (omega arith)

-- what is found under a leaf's table
pub table_there : (files : List (List ℕ)) (all : List Found) (place : Place) (number : Option ℕ) (j : ℕ) → number ≡ Some j
    → j < length files → j < length all → missing_at (zip files all) place number ≡ []
    → (bytes : List ℕ) × (slice_get all j ≡ Some (table bytes))
table_there files all place number j is a b e =
    let z = zip_at files all j a b in
    let none : missing place (z.0, z.1) ≡ [] =
    sym (ap (λ o. missing_at (zip files all) place o) is ∙ ap (λ o. option_map_or (missing place) o []) z.2) ∙ e in
    let r = nothing_missing place z.0 z.1 none in
    (r.0, z.3 ∙ ap (λ x. Some x) r.1)

number_in : {X : Type 0} (f : X → Option ℕ) (xs : List X) (k m : ℕ) → option_and_then (λ o. o) (slice_get (map f xs) k) ≡ Some m
    → (x : X) × (f x ≡ Some m)
number_in f [] k m e = absurd (cc)
number_in f (x ∷ xs) zero m e = (x, e)
number_in f (x ∷ xs) (suc k) m e = number_in f xs k m e

type_in : (names : List Name) (o : Option Name) (m : ℕ) → option_and_then (λ name. position (bytes_eq name) names) o ≡ Some m
    → m < length names
type_in names None m e = absurd (cc)
type_in names (Some name) m e = (position-Some (bytes_eq name) names m [] e).0

module _ (root : List ℕ) (source : Source) (flat : Flat) (all : List Found)
    (count : length all ≡ length (table_names root source flat)) (clean : first_table_fault root source flat all ≡ None) where
  types_count : length (table_names root source flat) ≡ length (types source flat)
  types_count = length-map (types source flat) (table_name (folder_of root))

  none_left : (flat_map (leaf_faults source flat (zip (table_names root source flat) all)) flat.leaves ≡ [])
      × (line_faults (first_arch all) (length source.files) all ≡ [])
  none_left = nil_append _ (line_faults (first_arch all) (length source.files) all)
      (least-empty (table_faults root source flat all) clean)

  each_table : (j : ℕ) → j < length all → (bytes : List ℕ) × (slice_get all j ≡ Some (table bytes))
  each_table j lt =
      let n = each_named (filter_map (type_of source) flat.leaves) j (omega (arith, count, types_count)) in
      let l = in_filter (type_of source) flat.leaves n.0 n.1 in
      let number : type_number source flat l.0 ≡ Some j =
      ap (option_and_then (λ name. position (bytes_eq name) (types source flat))) l.2 ∙ n.2 in
      table_there (table_names root source flat) all l.0.place (type_number source flat l.0) j number (omega (arith, count)) lt
      (none_in (leaf_faults source flat (zip (table_names root source flat) all)) flat.leaves l.0 none_left.0 l.1)

  all_tables : AreTables (length source.files) all
  all_tables = are_tables (first_arch all) (length source.files) all none_left.1 each_table

  all_images : length (images_in (types source flat) all) ≡ length (types source flat)
  all_images = images_count (length source.files) (types source flat) all (sym (count ∙ types_count)) all_tables

  pub images_numbered : IsWithin source flat → AreNumbered flat (images_of source flat all)
  images_numbered within = record {
    counted = record {
      count = omega (
        arith,
        all_images,
        firsts_few (filter_map (type_of source) flat.leaves),
        length-filter_map (type_of source)
            flat.leaves,
        within.leaves,
      );
      sections = λ m i e. omega (arith, images_few (length source.files) (types source flat) all all_tables m i e);
    };
    runs = λ leaf m e.
        let l = number_in (type_number source flat) flat.leaves leaf m e in
        omega (arith, all_images, type_in (types source flat) (type_of source l.0) m l.1);
    listed = λ domain i leaf j. let d = place_of domain flat.domains i in within.listed d.0 leaf domain d.1 j;
  }
