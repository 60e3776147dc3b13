-- Lists of which each element and each later one are related; and lists in the order of keys that differ.
use Rattle.source_images.proofs.Common.{All, All-permutation, IsIn, IsNonDecreasingBy, IsPermutation, IsPermutation-sym, List, [], all_in, ap, arith, cases_eq, cond, eq-eqb, from_gather, from_map, gather, in_append, inl, inr, map, nat_eq, ne_eqb}
use Rattle.source_images.proofs.Common.{refl, subst, suc, sum_by, sum_by-IsPermutation, sym, zero, ℕ, ⊎_elim, ◌++◌, ◌+◌, ◌<◌, ◌∙◌, ◌∷◌, ◌≡◌, ◌≤◌}
use Rattle.std.proofs.lemmas.List.Sums.{sum_by-cons}

-- ---- members of a permutation

pub own_all : {X : Type 0} (xs : List X) → All (λ x. IsIn x xs) xs
own_all [] k d l = absurd (omega arith)
own_all (x ∷ xs) zero d l = inl refl
own_all (x ∷ xs) (suc k) d l = inr (own_all xs k d (omega arith))

pub in_permutation : {X : Type 0} (xs ys : List X) (x : X) → IsPermutation xs ys → IsIn x ys → IsIn x xs
in_permutation xs ys x p i = all_in (λ z. IsIn z xs) ys x (All-permutation (λ z. IsIn z xs) xs ys p (own_all xs)) i

-- ---- each element and each later one

abbrev pub Later : {X : Type 0} → (X → X → Type 0) → List X → Type 0
Later R [] = Unit {0}
Later {X} R (x ∷ xs) = ((y : X) → IsIn y xs → R x y) × Later R xs

pub later_within : {X : Type 0} (R S : X → X → Type 0) (xs : List X) → ((x y : X) → IsIn x xs → IsIn y xs → R x y → S x y)
    → Later R xs → Later S xs
later_within R S [] h l = tt
later_within R S (x ∷ xs) h l =
    ((λ y i. h x y (inl refl) (inr i) (l.0 y i)), later_within R S xs (λ y z i j. h y z (inr i) (inr j)) l.1)

pub later_append : {X : Type 0} (R : X → X → Type 0) (xs ys : List X) → Later R xs → Later R ys
    → ((x y : X) → IsIn x xs → IsIn y ys → R x y) → Later R (xs ++ ys)
later_append R [] ys h k c = k
later_append R (x ∷ xs) ys h k c = (
  λ y i. ⊎_elim (λ j. h.0 y j) (λ j. c x y (inl refl) j) (in_append y xs ys i),
  later_append R xs ys h.1 k (λ z y i j. c z y (inr i) j),
)

pub later_map : {X Y : Type 0} (f : X → Y) (R : Y → Y → Type 0) (xs : List X) → Later (λ x y. R (f x) (f y)) xs
    → Later R (map f xs)
later_map f R [] h = tt
later_map f R (x ∷ xs) h = ((λ y i. let k = from_map f y xs i in subst (R (f x)) k.2 (h.0 k.0 k.1)), later_map f R xs h.1)

-- where a tag tells which element of a list something was gathered from
pub later_gather : {X Y : Type 0} (R : Y → Y → Type 0) (f : ℕ → X → List Y) (tag : Y → ℕ) (a : ℕ) (xs : List X)
    → ((k : ℕ) (x : X) (y : Y) → IsIn y (f k x) → tag y ≡ a + k)
    → ((k : ℕ) (x : X) → Later R (f k x)) → ((y z : Y) → (tag y ≡ tag z → ⊥) → R y z) → Later R (gather f xs)
later_gather R f tag a [] at each other = tt
later_gather {X} {Y} R f tag a (x ∷ xs) at each other =
    let g : ℕ → X → List Y = λ k z. f (suc k) z in
    later_append R (f 0 x) (gather g xs) (each 0 x)
    (later_gather R g tag (a + 1) xs (λ k z y i. at (suc k) z y i ∙ omega arith) (λ k z. each (suc k) z) other)
    (λ y z i j. let k = from_gather g z xs j in other y z (λ e. absurd (omega (arith, e, at 0 x y i, at (suc k.0) k.1 z k.3))))

module _ {X : Type 0} (n : X → ℕ) where
  -- ---- keys that differ

  abbrev pub Differ : List X → Type 0
  Differ = Later (λ x y. n x ≡ n y → ⊥)

  abbrev pub Rises : List X → Type 0
  Rises = Later (λ x y. n x < n y)

  abbrev pub Climbs : List X → Type 0
  Climbs = Later (λ x y. n x ≤ n y)

  abbrev hit : ℕ → X → ℕ
  hit a x = cond (nat_eq (n x) a) 1 0

  -- no key stands twice
  abbrev AreOnce : List X → Type 0
  AreOnce xs = (a : ℕ) → sum_by (hit a) xs ≤ 1

  hit_is : (a : ℕ) (x : X) → n x ≡ a → hit a x ≡ 1
  hit_is a x e = ap (λ t. cond t 1 0) (eq-eqb (n x) a e)

  hit_not : (a : ℕ) (x : X) → (n x ≡ a → ⊥) → hit a x ≡ 0
  hit_not a x e = ap (λ t. cond t 1 0) (ne_eqb (n x) a e)

  none_hit : (a : ℕ) (xs : List X) → ((y : X) → IsIn y xs → n y ≡ a → ⊥) → sum_by (hit a) xs ≡ 0
  none_hit a [] h = refl
  none_hit a (x ∷ xs) h = omega (
    arith,
    sum_by-cons (hit a) x xs,
    hit_not a x (h x (inl refl)),
    none_hit a xs (λ y i. h y (inr i)),
  )

  one_hit : (a : ℕ) (xs : List X) (y : X) → IsIn y xs → n y ≡ a → 1 ≤ sum_by (hit a) xs
  one_hit a [] y i e = absurd i
  one_hit a (x ∷ xs) y (inl s) e = omega (arith, sum_by-cons (hit a) x xs, hit_is a x (ap n s ∙ e))
  one_hit a (x ∷ xs) y (inr i) e = omega (arith, sum_by-cons (hit a) x xs, one_hit a xs y i e)

  once : (xs : List X) → Differ xs → AreOnce xs
  once [] h a = omega arith
  once (x ∷ xs) h a =
      ⊎_elim
      (λ e. omega (arith, sum_by-cons (hit a) x xs, hit_is a x e, none_hit a xs (λ y i s. h.0 y i (e ∙ sym s))))
      (λ e. omega (arith, sum_by-cons (hit a) x xs, hit_not a x e, once xs h.1 a))
      (cases_eq (n x) a)

  differ : (xs : List X) → AreOnce xs → Differ xs
  differ [] h = tt
  differ (x ∷ xs) h = (
    λ y i e. absurd (omega (arith, h (n x), sum_by-cons (hit (n x)) x xs, hit_is (n x) x refl, one_hit (n x) xs y i (sym e))),
    differ xs (λ a. omega (arith, h a, sum_by-cons (hit a) x xs)),
  )

  differ_still : (xs ys : List X) → IsPermutation xs ys → Differ xs → Differ ys
  differ_still xs ys p h = differ ys (λ a. omega (arith, once xs h a, sum_by-IsPermutation (hit a) xs ys p))

  -- ---- lists in the order of the keys

  pub climbs_in_order : (xs : List X) → IsNonDecreasingBy n xs → Climbs xs
  climbs_in_order [] h = tt
  climbs_in_order (x ∷ xs) h = (
    λ y i. all_in (λ z. n x ≤ n z) xs y (λ k d l. h 0 (suc k) d (omega arith) (omega arith)) i,
    climbs_in_order xs (λ i j d le l. h (suc i) (suc j) d (omega arith) (omega arith)),
  )

  rises : (xs : List X) → Climbs xs → Differ xs → Rises xs
  rises [] h d = tt
  rises (x ∷ xs) h d = (
    (λ y i. ⊎_elim (λ e. absurd (d.0 y i e)) (λ ne. below (h.0 y i) ne) (cases_eq (n x) (n y))),
    rises xs h.1 d.1,
  )
    where
      below : {a b : ℕ} → a ≤ b → (a ≡ b → ⊥) → a < b
      below le ne = omega arith

  -- a permutation of a list whose keys differ
  pub rises_in_order : (all xs : List X) → Differ all → IsPermutation all xs → Climbs xs → Rises xs
  rises_in_order all xs d p c = rises xs c (differ_still all xs p d)

  heads : (x y : X) (xs ys : List X) → Rises (x ∷ xs) → Rises (y ∷ ys) → IsIn x (y ∷ ys) → IsIn y (x ∷ xs) → y ≡ x
  heads x y xs ys r s (inl e) j = e
  heads x y xs ys r s (inr i) (inl e) = sym e
  heads x y xs ys r s (inr i) (inr j) = absurd (omega (arith, s.0 x i, r.0 y j))

  -- two that rise and have the same members are the same
  same_rise : (xs ys : List X) → Rises xs → Rises ys → ((z : X) → IsIn z xs → IsIn z ys)
      → ((z : X) → IsIn z ys → IsIn z xs) → xs ≡ ys
  same_rise [] [] r s to back = refl
  same_rise [] (y ∷ ys) r s to back = absurd (back y (inl refl))
  same_rise (x ∷ xs) [] r s to back = absurd (to x (inl refl))
  same_rise (x ∷ xs) (y ∷ ys) r s to back =
      let first : y ≡ x = heads x y xs ys r s (to x (inl refl)) (back y (inl refl)) in
      ap (λ z. z ∷ xs) (sym first) ∙ ap (λ zs. y ∷ zs)
      (same_rise xs ys r.1 s.1
      (λ z i. ⊎_elim (λ e. absurd (omega (arith, r.0 z i, ap n first, ap n e))) (λ j. j) (to z (inr i)))
      (λ z i. ⊎_elim (λ e. absurd (omega (arith, s.0 z i, ap n first, ap n e))) (λ j. j) (back z (inr i))))

  -- two permutations of a list whose keys differ, each in the order of the keys, are the same
  pub same_order : (all xs ys : List X) → Differ all → IsPermutation all xs → IsPermutation all ys → Climbs xs
      → Climbs ys → xs ≡ ys
  same_order all xs ys d p q c e =
      same_rise xs ys (rises_in_order all xs d p c) (rises_in_order all ys d q e)
      (λ z i. in_permutation ys all z (IsPermutation-sym all ys q) (in_permutation all xs z p i))
      (λ z i. in_permutation xs all z (IsPermutation-sym all xs p) (in_permutation all ys z q i))
