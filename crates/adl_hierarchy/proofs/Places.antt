-- Places in lists, and lists without what stands twice, where a test decides equality.
use Rattle.adl_hierarchy.proofs.Common.{Bool, Decides, IsIn, IsOnce, List, Some, [], ap, arith, both_ways, cond, enumerate_from, false, false_from_ne_true, filter, firsts_after, from_enumerate, from_map, in_map, inl, inr, map, or_from, or_parts}
use Rattle.adl_hierarchy.proofs.Common.{place_by, refl, rules, slice_get, subst, suc, sym, true, zero, ℕ, ◌+◌, ◌||◌, ◌↔◌, ◌∙◌, ◌∷◌, ◌≡◌, ◌⊎◌}
use Rattle.adl_meaning.specs.Lists.{firsts}
use Rattle.adl_hierarchy.proofs.Lists.{in_get}

-- where keys stand once, the place of the first that has a key is the place of the one that has it
pub place_is : {X K : Type 0} (same : K → K → Bool) → ((a b : K) → Decides (same a b) (a ≡ b))
    → (key : X → K) (xs : List X) (n : ℕ) (x : X) → IsOnce (map key xs) → slice_get xs n ≡ Some x
    → place_by (λ y. same (key x) (key y)) xs ≡ n
place_is same d key [] n x a e = cc
place_is {X} {K} same d key (y ∷ xs) zero x a e = search (rules)
place_is {X} {K} same d key (y ∷ xs) (suc n) x a e =
    let i = in_map key x xs (in_get xs n x e) in
    let P : K → Type 0 = λ k. IsIn k (map key xs) in
    let no : same (key x) (key y) ≡ false = false_from_ne_true _ (λ t. a.0 (subst P ((d (key x) (key y)).0 t) i)) in
    ap (λ b. cond b zero (suc (place_by (λ (z : X). same (key x) (key z)) xs))) no ∙ ap suc (place_is same d key xs n x a.1 e)

-- what is in a list stands at its place
pub at_place : {K : Type 0} (same : K → K → Bool) → ((a b : K) → Decides (same a b) (a ≡ b)) → (ks : List K) (k : K) → IsIn k ks
    → slice_get ks (place_by (same k) ks) ≡ Some k
at_place same d [] k i = absurd i
at_place {K} same d (y ∷ ks) k i = by_test (same k y) refl i (at_place same d ks k)
  where
    by_test : (b : Bool) → same k y ≡ b → IsIn k (y ∷ ks) → (IsIn k ks → slice_get ks (place_by (same k) ks) ≡ Some k)
        → slice_get (y ∷ ks) (cond b zero (suc (place_by (same k) ks))) ≡ Some k
    by_test true t j ih = ap Some (sym ((d k y).0 t))
    by_test false t (inl e) ih = let s : same k y ≡ true = (d k y).1 (sym e) in cc
    by_test false t (inr j) ih = ih j

-- ---- filters

pub in_filter : {X : Type 0} (p : X → Bool) (xs : List X) (x : X) → IsIn x xs → p x ≡ true → IsIn x (filter p xs)
in_filter p [] x i e = absurd i
in_filter {X} p (y ∷ xs) x i e = by_test (p y) refl i (λ j. in_filter p xs x j e)
  where
    by_test : (b : Bool) → p y ≡ b → IsIn x (y ∷ xs) → (IsIn x xs → IsIn x (filter p xs))
        → IsIn x (cond b (y ∷ filter p xs) (filter p xs))
    by_test true t (inl s) ih = inl s
    by_test true t (inr j) ih = inr (ih j)
    by_test false t (inl s) ih = let u : p y ≡ true = ap p s ∙ e in cc
    by_test false t (inr j) ih = ih j

pub from_filter : {X : Type 0} (p : X → Bool) (xs : List X) (x : X) → IsIn x (filter p xs) → IsIn x xs × (p x ≡ true)
from_filter p [] x i = absurd i
from_filter {X} p (y ∷ xs) x i = by_test (p y) refl i (from_filter p xs x)
  where
    by_test : (b : Bool) → p y ≡ b → IsIn x (cond b (y ∷ filter p xs) (filter p xs))
        → (IsIn x (filter p xs) → IsIn x xs × (p x ≡ true)) → IsIn x (y ∷ xs) × (p x ≡ true)
    by_test true t (inl s) ih = (inl s, ap p (sym s) ∙ t)
    by_test true t (inr j) ih = let k = ih j in (inr k.0, k.1)
    by_test false t j ih = let k = ih j in (inr k.0, k.1)

pub once_filter : {X K : Type 0} (key : X → K) (p : X → Bool) (xs : List X) → IsOnce (map key xs) → IsOnce (map key (filter p xs))
once_filter key p [] a = tt
once_filter {X} {K} key p (y ∷ xs) a = by_test (p y) (once_filter key p xs a.1)
  where
    by_test : (b : Bool) → IsOnce (map key (filter p xs)) → IsOnce (map key (cond b (y ∷ filter p xs) (filter p xs)))
    by_test true ih = (
      λ i.
          let z = from_map key (key y) (filter p xs) i in
          a.0 (subst (λ k. IsIn k (map key xs)) z.2 (in_map key z.0 xs (from_filter p xs z.0 z.1).0)),
      ih,
    )
    by_test false ih = ih

-- the numbers of a numbered list stand once
pub numbers_once : {X : Type 0} (a : ℕ) (xs : List X) → IsOnce (map (λ x. x.0) (enumerate_from a xs))
numbers_once a [] = tt
numbers_once {X} a (x ∷ xs) = (
  λ i. let y = from_map (λ (y : ℕ × X). y.0) a (enumerate_from (a + 1) xs) i in
      let e = (from_enumerate (a + 1) xs y.0 y.1).1 in let f = y.2 in absurd (omega arith),
  numbers_once (a + 1) xs,
)

-- ---- firsts

first_in : {X : Type 0} (same : X → X → Bool) (met : X → Bool) (xs : List X) (x : X) → IsIn x (firsts_after same met xs)
    → IsIn x xs × (met x ≡ false)
first_in same met [] x i = absurd i
first_in {X} same met (y ∷ xs) x i = by_test (met y) refl i (first_in same met xs x) (first_in same (λ z. met z || same z y) xs x)
  where
    by_test : (b : Bool) → met y ≡ b
        → IsIn x (cond b (firsts_after same met xs) (y ∷ firsts_after same (λ z. met z || same z y) xs))
        → (IsIn x (firsts_after same met xs) → IsIn x xs × (met x ≡ false))
        → (IsIn x (firsts_after same (λ z. met z || same z y) xs) → IsIn x xs × (met x || same x y ≡ false))
        → IsIn x (y ∷ xs) × (met x ≡ false)
    by_test true t j old new = let k = old j in (inr k.0, k.1)
    by_test false t (inl e) old new = (inl e, ap met (sym e) ∙ t)
    by_test false t (inr j) old new = let k = new j in (inr k.0, (or_parts (met x) (same x y) k.1).0)

first_met : {X : Type 0} (same : X → X → Bool) → ((a b : X) → Decides (same a b) (a ≡ b)) → (met : X → Bool) (xs : List X) (x : X)
    → IsIn x xs → met x ≡ false → IsIn x (firsts_after same met xs)
first_met same d met [] x i e = absurd i
first_met {X} same d met (y ∷ xs) x i e = by_test (met y) refl i (λ j. first_met same d met xs x j e)
    (λ j f. first_met same d (λ z. met z || same z y) xs x j f)
  where
    cases : (b : Bool) → (b ≡ true) ⊎ (b ≡ false)
    cases true = inl refl
    cases false = inr refl

    by_test : (b : Bool) → met y ≡ b → IsIn x (y ∷ xs) → (IsIn x xs → IsIn x (firsts_after same met xs))
        → (IsIn x xs → met x || same x y ≡ false → IsIn x (firsts_after same (λ z. met z || same z y) xs))
        → IsIn x (cond b (firsts_after same met xs) (y ∷ firsts_after same (λ z. met z || same z y) xs))
    by_test true t (inl s) old new = let u : met y ≡ false = ap met s ∙ e in cc
    by_test true t (inr j) old new = old j
    by_test false t (inl s) old new = inl s
    by_test false t (inr j) old new = search (rules, cases, or_from)

firsts_once : {X : Type 0} (same : X → X → Bool) → ((a b : X) → Decides (same a b) (a ≡ b)) → (met : X → Bool) (xs : List X)
    → IsOnce (firsts_after same met xs)
firsts_once same d met [] = tt
firsts_once {X} same d met (y ∷ xs) = by_test (met y) (firsts_once same d met xs) (firsts_once same d (λ z. met z || same z y) xs)
  where
    by_test : (b : Bool) → IsOnce (firsts_after same met xs) → IsOnce (firsts_after same (λ z. met z || same z y) xs)
        → IsOnce (cond b (firsts_after same met xs) (y ∷ firsts_after same (λ z. met z || same z y) xs))
    by_test true old new = old
    by_test false old new = (
      λ i.
          let k = (first_in same (λ z. met z || same z y) xs y i).1 in
          both_ways (same y y) (or_parts (met y) (same y y) k).1 ((d y y).1 refl),
      new,
    )

pub firsts_are : {X : Type 0} (same : X → X → Bool) → ((a b : X) → Decides (same a b) (a ≡ b)) → (xs : List X) (x : X)
    → IsIn x (firsts same xs) ↔ IsIn x xs
firsts_are same d xs x = (λ i. (first_in same (λ y. false) xs x i).0, λ i. first_met same d (λ y. false) xs x i refl)

pub once_firsts : {X : Type 0} (same : X → X → Bool) → ((a b : X) → Decides (same a b) (a ≡ b)) → (xs : List X)
    → IsOnce (firsts same xs)
once_firsts same d xs = firsts_once same d (λ y. false) xs
