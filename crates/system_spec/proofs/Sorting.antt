-- A stable sort by number puts lines in their order.
use Rattle.std.proofs.Common.{rules}
use Rattle.system_spec.proofs.Common.{Bool, IsNonDecreasingBy, IsStableByKey, List, [], ap, arith, by_number, cases_Bool, cond, cond-false, cond-true, false, filter, get_or, inl, inr, is_lt, leb, leb-false, leb-true, length, nat_cmp, put_line, refl}
use Rattle.system_spec.proofs.Common.{suc, suc-le-suc, sym, ties, true, zero, zero-le, ℕ, ◌<◌, ◌∙◌, ◌∷◌, ◌≡◌, ◌≤◌}
use Rattle.std.proofs.lemmas.Bool.Decides.{nat_tests}

abbrev Line : Type 0
Line = ℕ × ℕ

abbrev ties_with : Line → Line → Bool
ties_with = ties (λ (x y : Line). is_lt (nat_cmp x.0 y.0))

ties_at : (m n : ℕ) → (ties (λ x y. is_lt (nat_cmp x y)) m n ≡ true → m ≡ n)
    × (m ≡ n → ties (λ x y. is_lt (nat_cmp x y)) m n ≡ true)
ties_at m n = (λ h. grind (arith, nat_tests), λ h. grind (arith, nat_tests))

ties-true : (x y : Line) → ties_with x y ≡ true → x.0 ≡ y.0
ties-true x y = (ties_at x.0 y.0).0

ties_from : (x y : Line) → x.0 ≡ y.0 → ties_with x y ≡ true
ties_from x y = (ties_at x.0 y.0).1

filter-kept : (p : Line → Bool) (y : Line) (ys : List Line) → p y ≡ true → filter p (y ∷ ys) ≡ y ∷ filter p ys
filter-kept p y ys h = cond-true _ _ _ h

filter-dropped : (p : Line → Bool) (y : Line) (ys : List Line) → p y ≡ false → filter p (y ∷ ys) ≡ filter p ys
filter-dropped p y ys h = cond-false _ _ _ h

-- ---- insertion keeps those of one number as they stand

put-stays : (x y : Line) (ys : List Line) → leb x.0 y.0 ≡ true → put_line x (y ∷ ys) ≡ x ∷ y ∷ ys
put-stays x y ys h = cond-true _ _ _ h

put-past : (x y : Line) (ys : List Line) → leb x.0 y.0 ≡ false → put_line x (y ∷ ys) ≡ y ∷ put_line x ys
put-past x y ys h = cond-false _ _ _ h

filter-put : (z x : Line) (ys : List Line) → filter (ties_with z) (put_line x ys) ≡ filter (ties_with z) (x ∷ ys)
filter-put z x [] = refl
filter-put z x (y ∷ ys) =
    let p = ties_with z in
    elim (cases_Bool (leb x.0 y.0)) [
      | inl stays ↦ ap (filter p) (put-stays x y ys stays)
      | inr past ↦
          let apart = leb-false x.0 y.0 past in
          ap (filter p) (put-past x y ys past)
          ∙ elim (cases_Bool (p y)) [
            | inr without ↦
                filter-dropped p y (put_line x ys) without ∙ filter-put z x ys
                ∙ ap (λ (l : List Line). cond (p x) (x ∷ l) l) (sym (filter-dropped p y ys without))
            | inl with ↦
                elim (cases_Bool (p x)) [
                  | inl both ↦ absurd (omega (arith, apart, ties-true z x both, ties-true z y with))
                  | inr only ↦
                      filter-kept p y (put_line x ys) with ∙ ap (λ (l : List Line). y ∷ l) (filter-put z x ys
                      ∙ filter-dropped p x ys only)
                      ∙ sym (filter-dropped p x (y ∷ ys) only ∙ filter-kept p y ys with)
                ]
          ]
    ]

filter-by_number : (z : Line) (xs : List Line) → filter (ties_with z) (by_number xs) ≡ filter (ties_with z) xs
filter-by_number z [] = refl
filter-by_number z (x ∷ xs) = filter-put z x (by_number xs) ∙ ap (λ (l : List Line). cond (ties_with z x) (x ∷ l) l)
    (filter-by_number z xs)

-- ---- lists by number

abbrev AreAtLeast : ℕ → List Line → Type 0
AreAtLeast n [] = Unit {0}
AreAtLeast n (y ∷ ys) = (n ≤ y.0) × AreAtLeast n ys

abbrev Climbs : List Line → Type 0
Climbs [] = Unit {0}
Climbs (y ∷ ys) = AreAtLeast y.0 ys × Climbs ys

AreAtLeast-le : (n m : ℕ) (ys : List Line) → n ≤ m → AreAtLeast m ys → AreAtLeast n ys
AreAtLeast-le n m [] le h = tt
AreAtLeast-le n m (y ∷ ys) le h = let first = h.0 in (omega arith, AreAtLeast-le n m ys le h.1)

AreAtLeast-at : (n : ℕ) (ys : List Line) (d : Line) → ((j : ℕ) → j < length ys → n ≤ (get_or ys j d).0) → AreAtLeast n ys
AreAtLeast-at n [] d h = tt
AreAtLeast-at n (y ∷ ys) d h = (h zero (suc-le-suc zero-le), AreAtLeast-at n ys d (λ j lt. h (suc j) (suc-le-suc lt)))

climbs_from_sort : (ys : List Line) → IsNonDecreasingBy (λ (x : Line). x.0) ys → Climbs ys
climbs_from_sort [] h = tt
climbs_from_sort (y ∷ ys) h = (
  AreAtLeast-at y.0 ys y (λ j lt. h zero (suc j) y zero-le (suc-le-suc lt)),
  climbs_from_sort ys (λ i j d le lt. h (suc i) (suc j) d (suc-le-suc le) (suc-le-suc lt)),
)

-- where each is at least n, so is each after an insertion of one that is
least_by : (b : Bool) (n : ℕ) (x y : Line) (ys zs : List Line) → n ≤ x.0 → n ≤ y.0 → AreAtLeast n ys → AreAtLeast n zs
    → AreAtLeast n (cond b (x ∷ y ∷ ys) (y ∷ zs))
least_by true n x y ys zs a b h k = (a, (b, h))
least_by false n x y ys zs a b h k = (b, k)

put_least : (n : ℕ) (x : Line) (ys : List Line) → n ≤ x.0 → AreAtLeast n ys → AreAtLeast n (put_line x ys)
put_least n x [] le h = (le, tt)
put_least n x (y ∷ ys) le h = least_by (leb x.0 y.0) n x y ys (put_line x ys) le h.0 h.1 (put_least n x ys le h.1)

climbs_by : (b : Bool) (x y : Line) (ys zs : List Line) → leb x.0 y.0 ≡ b → Climbs (y ∷ ys) → Climbs zs
    → (y.0 ≤ x.0 → AreAtLeast y.0 zs) → Climbs (cond b (x ∷ y ∷ ys) (y ∷ zs))
climbs_by true x y ys zs t h k least = let le = leb-true x.0 y.0 t in ((le, AreAtLeast-le x.0 y.0 ys le h.0), h)
climbs_by false x y ys zs t h k least = let lt = leb-false x.0 y.0 t in (least (omega arith), k)

put_climbs : (x : Line) (ys : List Line) → Climbs ys → Climbs (put_line x ys)
put_climbs x [] h = (tt, tt)
put_climbs x (y ∷ ys) h = climbs_by (leb x.0 y.0) x y ys (put_line x ys) refl h (put_climbs x ys h.1)
    (λ le. put_least y.0 x ys le h.0)

by_number_climbs : (xs : List Line) → Climbs (by_number xs)
by_number_climbs [] = tt
by_number_climbs (x ∷ xs) = put_climbs x (by_number xs) (by_number_climbs xs)

-- ---- two lists by number with the same lines of each number

-- a line that is found among them
found_least : (n : ℕ) (x : Line) (ys : List Line) (w : Line) (ws : List Line) → AreAtLeast n ys → filter (ties_with x) ys ≡ w
    ∷ ws → n ≤ x.0
found_least n x [] w ws h e = cc
found_least n x (y ∷ ys) w ws h e =
    elim (cases_Bool (ties_with x y)) [
      | inl with ↦ omega (arith, h.0, ties-true x y with)
      | inr without ↦ found_least n x ys w ws h.1 (sym (filter-dropped (ties_with x) y ys without) ∙ e)
    ]

same_lines : (ys zs : List Line) → Climbs ys → Climbs zs → ((x : Line) → filter (ties_with x) ys ≡ filter (ties_with x) zs)
    → ys ≡ zs
same_lines [] [] left right same = refl
same_lines [] (z ∷ zs) left right same =
    let clash = same z ∙ filter-kept (ties_with z) z zs (ties_from z z refl) in cc
same_lines (y ∷ ys) [] left right same =
    let clash = sym (same y) ∙ filter-kept (ties_with y) y ys (ties_from y y refl) in cc
same_lines (y ∷ ys) (z ∷ zs) left right same =
    let at_y = filter-kept (ties_with y) y ys (ties_from y y refl) in
    let at_z = filter-kept (ties_with z) z zs (ties_from z z refl) in
    let up = found_least z.0 y (z ∷ zs) y _ (omega arith, right.0) (sym (same y) ∙ at_y) in
    let down = found_least y.0 z (y ∷ ys) z _ (omega arith, left.0) (same z ∙ at_z) in
    let heads = sym at_y ∙ same y ∙ filter-kept (ties_with y) z zs (ties_from y z (omega arith)) in
    let head : y ≡ z = cc in
    let tails : (x : Line) → filter (ties_with x) ys ≡ filter (ties_with x) zs =
    search (rules, cases_Bool, filter-kept, filter-dropped) in
    ap (λ (w : Line). w ∷ ys) head ∙ ap (λ (l : List Line). z ∷ l) (same_lines ys zs left.1 right.1 tails)

pub by_number_from_sort : (xs ys : List Line) → IsNonDecreasingBy (λ (x : Line). x.0) ys
    → IsStableByKey (λ (x : Line). x.0) nat_cmp xs ys → ys ≡ by_number xs
by_number_from_sort xs ys sorted stable =
    same_lines ys (by_number xs) (climbs_from_sort ys sorted) (by_number_climbs xs) (λ x. stable x ∙ sym (filter-by_number x xs))
