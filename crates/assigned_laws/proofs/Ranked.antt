-- Numbers of labels are the places of their texts, and tell the texts.
use Rattle.std.proofs.Common.{rules}
use Rattle.assigned_laws.proofs.Common.{AreApart, AreTextsApart, Bool, Domain, Flat, FlatConnection, HasPath, IsCalled, IsIn, IsThere, Leaf, Less, List, None, OfConnection, OfDomain, OfLeaf, Owner, Path, Some, Tables, [], ap, arith, comes_before}
use Rattle.assigned_laws.proofs.Common.{cond, connection_numbers, connection_texts, count_by, device_numbers, device_texts, domain_numbers, domain_texts, eq-eqb, eqb-true, false, from_gather, from_ones, from_where, get_ones, get_or_from_slice_get}
use Rattle.assigned_laws.proofs.Common.{has_label, in_append, in_gather, in_left, in_place, in_right, in_where, inl, inr, joined, label_lines, label_numbers, label_texts, ltb-false, ltb-true, number_of, place_of, rank, refl, slice_get, subst, suc}
use Rattle.assigned_laws.proofs.Common.{sym, texts, true, zero, ℕ, ◌++◌, ◌+◌, ◌<◌, ◌==◌, ◌↔◌, ◌∙◌, ◌∷◌, ◌≡◌, ◌≤◌}
use Rattle.std.specs.Cmp.Lexicographic.{slice_cmp}
use Rattle.std.specs.Ordering.{is_lt, nat_cmp, ordering_reverse}
use Rattle.std.specs.List.{find}
use Rattle.std.specs.Prelude.{nat_lt as ltb}
use Rattle.std.specs.Option.{option_map}
use Rattle.cap_model.specs.Policies.{label_name}
use Rattle.std.proofs.lemmas.Cmp.{nat_list_cmp_total, tied_itself}
use Rattle.std.proofs.lemmas.List.Sums.{sum_by-cons}
use Rattle.arch_policy.proofs.Ordering.{Above, Rises, order_rises, to_order, from_order}
use Rattle.arch_policy.specs.Owners.{is_device}
use Rattle.arch_policy.specs.Where.{where_true}

-- ---- lists

-- the one element that passes is found
pub find_only : {X : Type 0} (test : X → Bool) (xs : List X) (n : ℕ) (x : X) → slice_get xs n ≡ Some x → test x ≡ true
    → ((m : ℕ) (y : X) → slice_get xs m ≡ Some y → test y ≡ true → m ≡ n) → find test xs ≡ Some x
find_only test [] n x at passes only = cc
find_only test (y ∷ ys) zero x at passes only = search (rules)
find_only {X} test (y ∷ ys) (suc n) x at passes only =
    go (test y) refl (find_only test ys n x at passes (λ m z f t. let l = only (suc m) z f t in omega (arith, l))) where
      go : (b : Bool) → test y ≡ b → find test ys ≡ Some x → find test (y ∷ ys) ≡ Some x
      go true e behind = let l = only 0 y refl e in absurd (omega (arith, l))
      go false e behind = rw e behind

-- ---- ranks in texts that rise

abbrev one : Bool → ℕ
one b = cond b 1 0

count_step : (p : List ℕ → Bool) (x : List ℕ) (xs : List (List ℕ)) → count_by p (x ∷ xs) ≡ one (p x) + count_by p xs
count_step p x xs = sum_by-cons (λ z. one (p z)) x xs

not_itself : (t : List ℕ) → comes_before t t ≡ false
not_itself t = ap is_lt (tied_itself nat_list_cmp_total t)

not_behind : (s t : List ℕ) → slice_cmp nat_cmp t s ≡ Less → comes_before s t ≡ false
not_behind s t h = ap is_lt (nat_list_cmp_total.antisymm s t ∙ ap ordering_reverse h)

-- nothing comes before a text that all rise above
none_before : (t : List ℕ) (ts : List (List ℕ)) → Above t ts → rank ts t ≡ 0
none_before t [] a = refl
none_before t (s ∷ ss) a =
    let step = count_step (λ z. comes_before z t) s ss in
    let first : one (comes_before s t) ≡ 0 = ap one (not_behind s t a.0) in
    let rest = none_before t ss a.1 in
    omega (arith, step, first, rest)

above_at : (t x : List ℕ) (ts : List (List ℕ)) (n : ℕ) → Above t ts → slice_get ts n ≡ Some x → slice_cmp nat_cmp t x ≡ Less
above_at t x [] n a e = absurd cc
above_at t x (s ∷ ss) zero a e = let same : s ≡ x = cc in ap (slice_cmp nat_cmp t) (sym same) ∙ a.0
above_at t x (s ∷ ss) (suc n) a e = above_at t x ss n a.1 e

rising_places : (ts : List (List ℕ)) (i j : ℕ) (x y : List ℕ) → Rises ts → slice_get ts i ≡ Some x → slice_get ts j ≡ Some y
    → i < j → slice_cmp nat_cmp x y ≡ Less
rising_places [] i j x y r e f less = absurd cc
rising_places (t ∷ ts) i zero x y r e f less = absurd (omega (arith, less))
rising_places (t ∷ ts) zero (suc j) x y r e f less = let same : t ≡ x = cc in ap (λ z. slice_cmp nat_cmp z y) (sym same)
    ∙ above_at t y ts j r.0 f
rising_places (t ∷ ts) (suc i) (suc j) x y r e f less = rising_places ts i j x y r.1 e f (omega (arith, less))

-- in texts that rise, as many come before a text as stand in front of it
rank_place : (ts : List (List ℕ)) (n : ℕ) (x : List ℕ) → Rises ts → slice_get ts n ≡ Some x → rank ts x ≡ n
rank_place [] n x r e = absurd cc
rank_place (t ∷ ts) zero x r e = search (rules, count_step, not_itself, none_before)
rank_place (t ∷ ts) (suc n) x r e =
    let step = count_step (λ z. comes_before z x) t ts in
    let first : one (comes_before t x) ≡ 1 = ap (λ o. one (is_lt o)) (above_at t x ts n r.0 e) in
    let rest = rank_place ts n x r.1 e in
    omega (arith, step, first, rest)

-- ---- texts of labels

-- who has a label has a path
pub path_there : (flat : Flat) (x : Owner) → IsThere flat x → (p : Path) × HasPath flat x p
path_there flat (OfDomain d) h = (h.0.path, (h.0, h.1, refl))
path_there flat _ h = (h.0.path, (h.0, h.1, h.2, refl))

device_none : (leaf : Leaf) → leaf.domain ≡ None → is_device leaf.domain ≡ true
device_none leaf e = ap is_device e

-- a label's text is listed
listed : (flat : Flat) (x : Owner) (p : Path) → HasPath flat x p → IsIn (joined p) (texts flat)
listed flat (OfDomain d) p h =
    in_left (joined p) (domain_texts flat.domains) (device_texts flat.leaves ++ connection_texts flat.connections)
    (in_gather (λ d (x : Domain). joined x.path ∷ []) (joined p) flat.domains d h.0 h.1 (inl (ap joined h.2)))
listed flat (OfLeaf l) p h =
    in_right (joined p) (domain_texts flat.domains) (device_texts flat.leaves ++ connection_texts flat.connections)
    (in_left (joined p) (device_texts flat.leaves) (connection_texts flat.connections)
    (in_gather (λ l (x : Leaf). where_true (is_device x.domain) (joined x.path)) (joined p) flat.leaves l h.0 h.1
    (subst (λ z. IsIn (joined z) (where_true (is_device h.0.domain) (joined h.0.path))) h.3
    (in_where (is_device h.0.domain) (joined h.0.path) (device_none h.0 h.2)))))
listed flat (OfConnection k) p h =
    in_right (joined p) (domain_texts flat.domains) (device_texts flat.leaves ++ connection_texts flat.connections)
    (in_right (joined p) (device_texts flat.leaves) (connection_texts flat.connections)
    (in_gather (λ k (x : FlatConnection). where_true (has_label x.connector) (joined x.path)) (joined p)
    flat.connections k h.0 h.1
    (subst (λ z. IsIn (joined z) (where_true (has_label h.0.connector) (joined h.0.path))) h.3
    (in_where (has_label h.0.connector) (joined h.0.path) h.2))))

-- a device's leaf has no domain
none_device : (leaf : Leaf) → is_device leaf.domain ≡ true → leaf.domain ≡ None
none_device leaf h = search (rules)

-- and each text that is listed is a label's
record Labels (flat : Flat) (text : List ℕ) : Type 0 where
  owner : Owner
  path : Path
  has : HasPath flat owner path
  text_is : joined path ≡ text

from_listed : (flat : Flat) (text : List ℕ) → IsIn text (texts flat) → Labels flat text
from_listed flat text i =
    elim (in_append text (domain_texts flat.domains) (device_texts flat.leaves ++ connection_texts flat.connections) i) [
      | inl d ↦
          let g = from_gather (λ d (x : Domain). joined x.path ∷ []) text flat.domains d in
          of_domain g.0 g.1 g.2 g.3
      | inr r ↦ elim (in_append text (device_texts flat.leaves) (connection_texts flat.connections) r) [
        | inl l ↦
            let g = from_gather (λ l (x : Leaf). where_true (is_device x.domain) (joined x.path)) text flat.leaves l in
            let w = from_where (is_device g.1.domain) (joined g.1.path) text g.3 in
            record { owner = OfLeaf g.0; path = g.1.path; has = (g.1, g.2, none_device g.1 w.0, refl); text_is = w.1 }
        | inr c ↦
            let g = from_gather (λ k (x : FlatConnection). where_true (has_label x.connector) (joined x.path)) text
            flat.connections c in
            let w = from_where (has_label g.1.connector) (joined g.1.path) text g.3 in
            record { owner = OfConnection g.0; path = g.1.path; has = (g.1, g.2, w.0, refl); text_is = w.1 }
      ]
    ] where
      of_domain : (d : ℕ) (x : Domain) → slice_get flat.domains d ≡ Some x → IsIn text (joined x.path ∷ []) → Labels flat text
      of_domain d x e (inl same) = record { owner = OfDomain d; path = x.path; has = (x, e, refl); text_is = same }
      of_domain d x e (inr none) = absurd none

-- ---- numbers of labels

-- the number of a label is how many texts come before its own
number_rank : (flat : Flat) (x : Owner) (p : Path) → HasPath flat x p
    → number_of (label_numbers flat) x ≡ rank (label_texts flat) (joined p)
number_rank flat (OfDomain d) p h =
    get_or_from_slice_get (domain_numbers (label_texts flat) flat.domains) d _ 0
    (get_ones (λ d (x : Domain). rank (label_texts flat) (joined x.path)) flat.domains d h.0 h.1)
    ∙ ap (λ z. rank (label_texts flat) (joined z)) h.2
number_rank flat (OfConnection k) p h =
    get_or_from_slice_get (connection_numbers (label_texts flat) flat.connections) k _ 0
    (get_ones (λ k (x : FlatConnection). rank (label_texts flat) (joined x.path)) flat.connections k h.0 h.1)
    ∙ ap (λ z. rank (label_texts flat) (joined z)) h.3
number_rank flat (OfLeaf l) p h =
    get_or_from_slice_get (device_numbers (label_texts flat) flat.leaves) l _ 0
    (get_ones (λ l (x : Leaf). rank (label_texts flat) (joined x.path)) flat.leaves l h.0 h.1)
    ∙ ap (λ z. rank (label_texts flat) (joined z)) h.3

-- and the place of its text
number_place : (flat : Flat) (x : Owner) (p : Path) → HasPath flat x p
    → slice_get (label_texts flat) (number_of (label_numbers flat) x) ≡ Some (joined p)
number_place flat x p h = search (rules, place_of, to_order, listed, number_rank, rank_place, order_rises)

-- where texts are apart, numbers are
pub numbers_apart : (t : Tables) → t.numbers ≡ label_numbers t.flat → AreTextsApart t.flat → AreApart t
numbers_apart t is apart x y a b e = search (rules, path_there, number_place)

-- ---- lines of labels

-- a line stands at its number
pub line_place : (flat : Flat) (l : ℕ) (text : List ℕ) → IsIn {X = ℕ × List ℕ} (l, text) (label_lines flat)
    → slice_get (label_texts flat) l ≡ Some text
line_place flat l text i = search (rules, from_gather)

-- a line of the labels has the number that is called by its text
pub line_called : (t : Tables) → t.numbers ≡ label_numbers t.flat → (l : ℕ) (text : List ℕ)
    → IsIn {X = ℕ × List ℕ} (l, text) (label_lines t.flat) → IsCalled t l text
line_called t is l text i =
    let e = line_place t.flat l text i in
    let w = from_listed t.flat text (from_order text (texts t.flat) (in_place text (label_texts t.flat) l e)) in
    let number : number_of t.numbers w.owner ≡ l = search (rules, number_rank, rank_place, order_rises) in
    (w.path, record { labelled = w.owner; there = w.has; is = sym number }, w.text_is)

pub called_line : (t : Tables) → t.numbers ≡ label_numbers t.flat → (l : ℕ) (text : List ℕ) → IsCalled t l text
    → IsIn {X = ℕ × List ℕ} (l, text) (label_lines t.flat)
called_line t is l text c =
    let w = c.1 in
    let number : l ≡ number_of (label_numbers t.flat) w.labelled = w.is ∙ ap (λ z. number_of z w.labelled) is in
    let e : slice_get (label_texts t.flat) l ≡ Some text = search (rules, number_place) in
    in_gather (λ n t. (n, t) ∷ []) (l, text) (label_texts t.flat) l text e (inl refl)

-- two lines have one number just where they have one text
pub lines_apart : (flat : Flat) (l m : ℕ) (from to : List ℕ) → IsIn {X = ℕ × List ℕ} (l, from) (label_lines flat)
    → IsIn {X = ℕ × List ℕ} (m, to) (label_lines flat) → (l ≡ m) ↔ (from ≡ to)
lines_apart flat l m from to i j = search (rules, order_rises, line_place, rank_place)

-- what a label's number is called
pub line_name : (flat : Flat) (l : ℕ) (text : List ℕ) → IsIn {X = ℕ × List ℕ} (l, text) (label_lines flat)
    → label_name (label_lines flat) l ≡ Some text
line_name flat l text i =
    let ts = label_texts flat in
    let here : slice_get (label_lines flat) l ≡ Some (l, text) = get_ones (λ n y. (n, y)) ts l text (line_place flat l text i) in
    let found : find (λ (o : ℕ × List ℕ). o.0 == l) (label_lines flat) ≡ Some (l, text) =
    find_only (λ (o : ℕ × List ℕ). o.0 == l) (label_lines flat) l (l, text) here (eq-eqb l l refl)
    (λ m o f h. let y = from_ones (λ n z. (n, z)) ts m o f in ap (λ (z : ℕ × List ℕ). z.0) y.2 ∙ eqb-true o.0 l h) in
    ap (option_map (λ (o : ℕ × List ℕ). o.1)) found

-- texts rise with the numbers of their lines
pub lines_rise : (flat : Flat) (l m : ℕ) (from to : List ℕ) → IsIn {X = ℕ × List ℕ} (l, from) (label_lines flat)
    → IsIn {X = ℕ × List ℕ} (m, to) (label_lines flat) → l < m → comes_before from to ≡ true
lines_rise flat l m from to i j less = search (rules, rising_places, order_rises, line_place)

pub lines_fall : (flat : Flat) (l m : ℕ) (from to : List ℕ) → IsIn {X = ℕ × List ℕ} (l, from) (label_lines flat)
    → IsIn {X = ℕ × List ℕ} (m, to) (label_lines flat) → l ≤ m → comes_before to from ≡ false
lines_fall flat l m from to i j most =
    search (rules, not_behind, rising_places, order_rises, line_place, ltb-true, ltb-false, lines_apart, not_itself)
