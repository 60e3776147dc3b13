-- Domains stand in the order of their first leaves, and the leaves of each in theirs.
use Rattle.front_laws.proofs.Common.{Bool, Hierarchy, InOrder, IsIn, List, Path, Some, [], ap, append_assoc, arith, cond, domain_of, domains, enumerate_from, false, flat_domain, from_enumerate, from_filter, get_behind, inl, inr, is_hardware}
use Rattle.front_laws.proofs.Common.{is_inside, leaves, length, map, not, or_left, or_parts, or_right, refl, rules, same_path, same_path-Decides, split_get, sym, true, true≢false, ℕ, ◌++◌, ◌+◌, ◌<◌, ◌||◌, ◌∙◌, ◌∷◌, ◌≡◌, ◌⊎◌}
use Rattle.adl_meaning.specs.Lists.{firsts_after}
use Rattle.adl_meaning.specs.Prelude.{filter, slice_get}
use Rattle.front_laws.proofs.Ordered.{order_map}

-- ---- the leaves of one domain

-- numbered from a on, the numbers rise
numbers_rise : {X : Type 0} (p : ℕ × X → Bool) (a : ℕ) (xs : List X) → InOrder (λ x y. x.0 < y.0) (filter p (enumerate_from a xs))
numbers_rise p a [] = tt
numbers_rise {X} p a (x ∷ xs) = by_test (p (a, x)) (numbers_rise p (a + 1) xs)
  where
    by_test : (b : Bool) → InOrder (λ x y. x.0 < y.0) (filter p (enumerate_from (a + 1) xs))
        → InOrder (λ (x y : ℕ × X). x.0 < y.0) (cond b ((a, x) ∷ filter p (enumerate_from (a + 1) xs))
        (filter p (enumerate_from (a + 1) xs)))
    by_test true more = (
      λ y i.
          let j = from_enumerate (a + 1) xs y (from_filter p (enumerate_from (a + 1) xs) y i).0 in
          let e : y.0 ≡ a + 1 + j.0 = j.1 in
          omega (arith, e),
      more,
    )
    by_test false more = more

pub domain_leaves_rise : (h : Hierarchy) (d : Path) → InOrder ◌<◌ (flat_domain h d).leaves
domain_leaves_rise h d = order_map ◌<◌ (λ x. x.0) (filter (λ x. is_inside h d x.1) (enumerate_from 0 (leaves h)))
    (numbers_rise (λ x. is_inside h d x.1) 0 (leaves h))

-- ---- the first of each

-- something of the key stands at place n, and passes
pub record HasKey {X : Type 0} (whole : List X) (passes : X → Bool) (key : X → Path) (n : ℕ) (d : Path) : Type 0 where
  pub item : X
  pub there : slice_get whole n ≡ Some item
  pub passing : passes item ≡ true
  pub key_is : key item ≡ d

-- the first of the one key stands before all of the other
pub record IsKeyBefore {X : Type 0} (whole : List X) (passes : X → Bool) (key : X → Path) (d e : Path) : Type 0 where
  pub first : ℕ
  pub stands : HasKey whole passes key first d
  pub before : (n : ℕ) → HasKey whole passes key n e → first < n

-- what is met stands nowhere among those that are left
not_met : (met : Path → Bool) (ds : List Path) (d : Path) → IsIn d (firsts_after same_path met ds) → met d ≡ false
not_met met [] d i = absurd i
not_met met (e ∷ ds) d i = by_test (met e) refl i (not_met met ds d) (not_met (λ y. met y || same_path y e) ds d)
  where
    by_test : (b : Bool) → met e ≡ b
        → IsIn d (cond b (firsts_after same_path met ds) (e ∷ firsts_after same_path (λ y. met y || same_path y e) ds))
        → (IsIn d (firsts_after same_path met ds) → met d ≡ false)
        → (IsIn d (firsts_after same_path (λ y. met y || same_path y e) ds) → (met d || same_path d e) ≡ false) → met d ≡ false
    by_test true t j old new = old j
    by_test false t (inl s) old new = ap met (sym s) ∙ t
    by_test false t (inr j) old new = (or_parts (met d) (same_path d e) (new j)).0

abbrev Keys : {X : Type 0} → (X → Bool) → (X → Path) → List X → List Path
Keys passes key xs = map key (filter passes xs)

-- each key of the front is met
abbrev IsMet : {X : Type 0} → (X → Bool) → (X → Path) → (Path → Bool) → List X → Type 0
IsMet {X} passes key met front = (n : ℕ) (x : X) → slice_get front n ≡ Some x → passes x ≡ true → met (key x) ≡ true

-- with one element more
met_more : {X : Type 0} (passes : X → Bool) (key : X → Path) (old new : Path → Bool) (front : List X) (x : X)
    → IsMet passes key old front
    → ((d : Path) → old d ≡ true → new d ≡ true) → (passes x ≡ true → new (key x) ≡ true) → IsMet passes key new (front ++ x ∷ [])
met_more {X} passes key old new front x met keep here n y e p = search (rules, split_get)

-- an element of a key that isn't met, and that isn't the key of x, stands behind x
behind : {X : Type 0} (whole : List X) (passes : X → Bool) (key : X → Path) (met : Path → Bool) (front xs : List X) (x : X)
    → whole ≡ front ++ x ∷ xs → IsMet passes key met front
    → (d : Path) (n : ℕ) → HasKey whole passes key n d → (met d || same_path d (key x)) ≡ false → length front < n
behind {X} whole passes key met front xs x e a d n k none = search (rules, split_get, or_left, same_path-Decides, or_right)

abbrev AreOrdered : {X : Type 0} → List X → (X → Bool) → (X → Path) → (Path → Bool) → List X → Type 0
AreOrdered whole passes key met xs = InOrder (IsKeyBefore whole passes key) (firsts_after same_path met (Keys passes key xs))

keys_ordered : {X : Type 0} (whole : List X) (passes : X → Bool) (key : X → Path) (met : Path → Bool) (front xs : List X)
    → whole ≡ front ++ xs → IsMet passes key met front → AreOrdered whole passes key met xs
keys_ordered whole passes key met front [] e a = tt
keys_ordered {X} whole passes key met front (x ∷ xs) e a =
    let further : whole ≡ (front ++ x ∷ []) ++ xs = e ∙ sym (append_assoc front (x ∷ []) xs) in
    let more : Path → Bool = λ y. met y || same_path y (key x) in
    by_test (passes x) refl (λ k. keys_ordered whole passes key met (front ++ x ∷ []) xs further
    (met_more passes key met met front x a (λ d m. m) k)) (keys_ordered whole passes key more (front ++ x ∷ []) xs further
    (met_more passes key met more front x a (λ d k. or_left (met d) (same_path d (key x)) k)
    (λ p. or_right (met (key x)) (same_path (key x) (key x)) ((same_path-Decides (key x) (key x)).1 refl))))
  where
    here : slice_get whole (length front) ≡ Some x
    here = ap (λ z. slice_get z (length front)) e ∙ get_behind front (x ∷ xs) 0 (length front) (omega arith)

    by_met : (b : Bool) → passes x ≡ true → met (key x) ≡ b → ((passes x ≡ true → met (key x) ≡ true)
        → AreOrdered whole passes key met xs) → AreOrdered whole passes key (λ y. met y || same_path y (key x)) xs
        → InOrder (IsKeyBefore whole passes key) (cond b (firsts_after same_path met (Keys passes key xs))
        (key x ∷ firsts_after same_path (λ y. met y || same_path y (key x)) (Keys passes key xs)))
    by_met true t m old new = old (λ p. m)
    by_met false t m old new = (
      λ d i. record {
        first = length front;
        stands = record { item = x; there = here; passing = t; key_is = refl };
        before = λ n k. behind whole passes key met front xs x e a d n k (not_met (λ y. met y || same_path y (key x))
            (Keys passes key xs) d i);
      },
      new,
    )

    by_test : (b : Bool) → passes x ≡ b → ((passes x ≡ true → met (key x) ≡ true) → AreOrdered whole passes key met xs)
        → AreOrdered whole passes key (λ y. met y || same_path y (key x)) xs → InOrder (IsKeyBefore whole passes key)
        (firsts_after same_path met (map key (cond b (x ∷ filter passes xs) (filter passes xs))))
    by_test false t old new = old (λ p. absurd (true≢false (sym p ∙ t)))
    by_test true t old new = by_met (met (key x)) t refl old new

pub domains_in_order : (h : Hierarchy)
    → InOrder (IsKeyBefore (leaves h) (λ x. not (is_hardware h x.part)) (λ x. domain_of h x.path)) (domains h)
domains_in_order h = keys_ordered (leaves h) (λ x. not (is_hardware h x.part)) (λ x. domain_of h x.path) (λ y. false) []
    (leaves h) refl (λ n x e p. cc)
