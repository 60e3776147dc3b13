-- Walks: how long they are where no component holds itself, and what an order says of them.
use Rattle.adl_hierarchy.proofs.Common.{AllByRecursion, Holds, InRange, IsAcyclic, IsDistinct-cons, IsInnerFirst, List, Walk, [], add-one, ap, arith, eqb-true, false, false_from_ne_true, false≢true, get_or, has, inl, inner_of, inr, length}
use Rattle.adl_hierarchy.proofs.Common.{length-le_from_distinct_below, list_any_more, or_cases, or_left, or_parts, refl, rules, subst, suc, sym, take, take-length, true, zero, ℕ, ◌+◌, ◌<◌, ◌∙◌, ◌∷◌, ◌≡◌, ◌≤◌, ◌⊎◌}
use Rattle.std.specs.List.{IsDistinct}
use lib.Dec.{eqb}

-- a walk stays in range
pub walk_in_range : (g : List (List ℕ)) → InRange g → (n a b : ℕ) → a < length g → Walk g a b n → b < length g
walk_in_range g r zero a b h w = let P : ℕ → Type 0 = λ x. x < length g in subst P w h
walk_in_range g r (suc n) a b h w = walk_in_range g r n w.0 b (r a w.0 h w.1) w.2

-- the components on a walk
trail : (g : List (List ℕ)) (n a b : ℕ) → Walk g a b n → List ℕ
trail g zero a b w = a ∷ []
trail g (suc n) a b w = a ∷ trail g n w.0 b w.2

length-trail : (g : List (List ℕ)) (n a b : ℕ) (w : Walk g a b n) → length (trail g n a b w) ≡ suc n
unfolding trail IsDistinct
length-trail g zero a b w = refl
length-trail g (suc n) a b w = ap suc (length-trail g n w.0 b w.2)

-- what is on the trail is reached
on_trail : (g : List (List ℕ)) (n a b : ℕ) (w : Walk g a b n) (x : ℕ) → has (trail g n a b w) x ≡ true → Holds g a x
unfolding trail IsDistinct
on_trail g zero a b w x h = search (rules, or_cases, eqb, eqb-true)
on_trail g (suc n) a b w x h = elim (or_cases (eqb x a) (has (trail g n w.0 b w.2) x) h) [
  | inl e ↦ (0, sym (eqb-true x a e))
  | inr e ↦ let k : Holds g w.0 x = on_trail g n w.0 b w.2 x e in (suc k.0, (w.0, w.1, k.1))
]

-- the trail stays in range
trail_below : (g : List (List ℕ)) → InRange g → (n a b : ℕ) (w : Walk g a b n) → a < length g → (x : ℕ)
    → has (trail g n a b w) x ≡ true → x < length g
trail_below g r n a b w h x e = let k : Holds g a x = on_trail g n a b w x e in walk_in_range g r k.0 a x h k.1

apart : (x : ℕ) (ys : List ℕ) → has ys x ≡ false → AllByRecursion (λ y. eqb x y ≡ false) ys
apart x [] h = tt
apart x (y ∷ ys) h = ((or_parts (eqb x y) (has ys x) h).0, apart x ys (or_parts (eqb x y) (has ys x) h).1)

-- where no component holds itself, no component stands twice on a walk
trail_distinct : (g : List (List ℕ)) → InRange g → IsAcyclic g → (n a b : ℕ) (w : Walk g a b n) → a < length g
    → IsDistinct eqb (trail g n a b w)
unfolding trail IsDistinct
trail_distinct g r acyclic zero a b w h = IsDistinct-cons eqb a [] tt tt
trail_distinct g r acyclic (suc n) a b w h =
    IsDistinct-cons eqb a (trail g n w.0 b w.2)
    (apart a (trail g n w.0 b w.2) (false_from_ne_true _ (λ e. let k : Holds g w.0 a = on_trail g n w.0 b w.2 a e in
    acyclic a w.0 k.0 h w.1 k.1)))
    (trail_distinct g r acyclic n w.0 b w.2 (r a w.0 h w.1))

-- Where no component holds itself, each walk has fewer steps than there are components
pub walks_short : (g : List (List ℕ)) → InRange g → IsAcyclic g → (n a b : ℕ) → a < length g → Walk g a b n → n < length g
walks_short g r acyclic n a b h w =
    let most : length (trail g n a b w) ≤ length g = length-le_from_distinct_below (trail g n a b w) (length g)
    (trail_distinct g r acyclic n a b w h) (trail_below g r n a b w h) in
    omega (arith, length-trail g n a b w, most)

pub has_more : (xs : List ℕ) (i x : ℕ) → i < length xs → has (take (i + 1) xs) x ≡ true → (has (take i xs) x ≡ true)
    ⊎ (x ≡ get_or xs i 0)
has_more xs i x h e = elim (or_cases (has (take i xs) x) (eqb x (get_or xs i 0)) (sym (list_any_more (eqb x) xs i 0 h) ∙ e))
    [ inl p ↦ inl p | inr p ↦ inr (eqb-true x (get_or xs i 0) p) ]

has_less : (xs : List ℕ) (i x : ℕ) → i < length xs → has (take i xs) x ≡ true → has (take (i + 1) xs) x ≡ true
has_less xs i x h e = list_any_more (eqb x) xs i 0 h ∙ or_left _ _ e

-- order puts each component after its inner ones, as far as it goes
pub laid_in : (g : List (List ℕ)) (order : List ℕ) → ((i c : ℕ) → i < length order → has (inner_of g (get_or order i 0)) c ≡ true
    → has (take i order) c ≡ true) → (i : ℕ) → i ≤ length order → (n a b : ℕ) → has (take i order) a ≡ true → Walk g a b n
    → has (take i order) b ≡ true
laid_in g order inner zero l n a b h w = absurd (false≢true h)
laid_in g order inner (suc i) l zero a b h w = let P : ℕ → Type 0 = λ x. has (take (suc i) order) x ≡ true in subst P w h
laid_in g order inner (suc i) l (suc n) a b h w =
    let below : i < length order = omega arith in
    let up : (x : ℕ) → has (take i order) x ≡ true → has (take (suc i) order) x ≡ true = λ x e. let Q : ℕ → Type 0 =
    λ k. has (take k order) x ≡ true in subst Q (add-one i) (has_less order i x below e) in
    elim (has_more order i a below (subst (λ k. has (take k order) a ≡ true) (sym (add-one i)) h)) [
      | inl e ↦ up b (laid_in g order inner i (omega arith) (suc n) a b e w)
      | inr e ↦ let R : ℕ → Type 0 = λ x. has (inner_of g x) w.0 ≡ true in
          up b (laid_in g order inner i (omega arith) n w.0 b (inner i w.0 below (subst R e w.1)) w.2)
    ]

no_ring : (g : List (List ℕ)) (order : List ℕ) → ((i c : ℕ) → i < length order → has (inner_of g (get_or order i 0)) c ≡ true
    → has (take i order) c ≡ true) → (i : ℕ) → i ≤ length order → (a c n : ℕ) → has (take i order) a ≡ true
    → has (inner_of g a) c ≡ true → Walk g c a n → ⊥
no_ring g order inner zero l a c n h e w = absurd (false≢true h)
no_ring g order inner (suc i) l a c n h e w =
    let below : i < length order = omega arith in
    elim (has_more order i a below (subst (λ k. has (take k order) a ≡ true) (sym (add-one i)) h)) [
      | inl p ↦ no_ring g order inner i (omega arith) a c n p e w
      | inr p ↦ let R : ℕ → Type 0 = λ x. has (inner_of g x) c ≡ true in
          no_ring g order inner i (omega arith) a c n (laid_in g order inner i (omega arith) n c a
          (inner i c below (subst R p e)) w) e w
    ]

-- an order of this kind shows that no component holds itself
pub acyclic_from_order : (g : List (List ℕ)) (order : List ℕ) → IsInnerFirst g order → IsAcyclic g
acyclic_from_order g order o a c n h e w =
    let Q : List ℕ → Type 0 = λ xs. has xs a ≡ true in
    no_ring g order o.inner (length order) (omega arith) a c n (subst Q (sym (take-length order)) (o.whole a h)) e w

-- where each component that isn't in order has an inner one that isn't, walks go on for ever
go_on : (g : List (List ℕ)) (order : List ℕ) → InRange g → ((a : ℕ) → a < length g → has order a ≡ false
    → (c : ℕ) × (has (inner_of g a) c ≡ true) × (has order c ≡ false)) → (n a : ℕ) → a < length g → has order a ≡ false
    → (b : ℕ) × Walk g a b n
go_on g order r stuck zero a h e = (a, refl)
go_on g order r stuck (suc n) a h e =
    let s = stuck a h e in
    let k : (b : ℕ) × Walk g s.0 b n = go_on g order r stuck n s.0 (r a s.0 h s.1) s.2 in
    (k.0, (s.0, s.1, k.1))

pub ring_from_stuck : (g : List (List ℕ)) (order : List ℕ) → InRange g → ((a : ℕ) → a < length g → has order a ≡ false
    → (c : ℕ) × (has (inner_of g a) c ≡ true) × (has order c ≡ false)) → (a : ℕ) → a < length g → has order a ≡ false
    → IsAcyclic g → ⊥
ring_from_stuck g order r stuck a h e acyclic =
    let k : (b : ℕ) × Walk g a b (length g) = go_on g order r stuck (length g) a h e in
    let l : length g < length g = walks_short g r acyclic (length g) a k.0 h k.1 in omega arith

-- what is found holds all that it holds, where each found one has its inner ones found
pub closed_walk : (g : List (List ℕ)) (found : List ℕ) → ((a c : ℕ) → has found a ≡ true → has (inner_of g a) c ≡ true
    → has found c ≡ true) → (n a b : ℕ) → has found a ≡ true → Walk g a b n → has found b ≡ true
closed_walk g found closed zero a b h w = let P : ℕ → Type 0 = λ x. has found x ≡ true in subst P w h
closed_walk g found closed (suc n) a b h w = closed_walk g found closed n w.0 b (closed a w.0 h w.1) w.2

-- one step more at the end of a walk
pub walk_more : (g : List (List ℕ)) (n a b c : ℕ) → Walk g a b n → has (inner_of g b) c ≡ true → Walk g a c (suc n)
walk_more g zero a b c w e = (c, let P : ℕ → Type 0 = λ x. has (inner_of g x) c ≡ true in subst P (sym w) e, refl)
walk_more g (suc n) a b c w e = (w.0, w.1, walk_more g n w.0 b c w.2 e)
