-- What a list of edges has, by places and by elements; what a sorted list is determined by.
use Rattle.cap_model.proofs.Common.{AtMost, Authority, Before, Bool, Contains, Edge, Has, IsSorted, List, Some, [], ap, arith, cases_lt, edge, false, get_or_from_slice_get, has, inl, inr, refl, same_edge, slice_get, slice_get_read, slice_get_within}
use Rattle.cap_model.proofs.Common.{rules, subst, suc, sym, true, zero, ℕ, ◌||◌, ◌↔◌, ◌∷◌, ◌≡◌, ◌≤◌, ◌⊎◌}
use Rattle.std.proofs.Math.Bool.{or-true}
use Rattle.cap_model.proofs.EdgeOrder.{same_edge_true, same_edge_self, at_most_self, before_at_most, not_before_self, not_before_both}

-- a list has what stands at a place of it
pub has_at : (edges : List Edge) (i : ℕ) (e : Edge) → slice_get edges i ≡ Some e → has edges e ≡ true
has_at [] i e h = absurd cc
has_at (d ∷ edges) zero e h = let same : d ≡ e = cc in rw (same, same_edge_self e) refl
has_at (d ∷ edges) (suc i) e h = rw (has_at edges i e h) (or-true (same_edge d e))

-- and what it has stands at a place
pub at_has : (edges : List Edge) (e : Edge) → has edges e ≡ true → (i : ℕ) × (slice_get edges i ≡ Some e)
at_has [] e h = absurd cc
at_has (d ∷ edges) e h =
    elim (same_edge d e) as (λ b. same_edge d e ≡ b → (b || has edges e) ≡ true → (i : ℕ) × (slice_get (d ∷ edges) i ≡ Some e)) [
      | true ↦ λ s h. (zero, ap Some (same_edge_true d e s))
      | false ↦ λ s h. let there : (i : ℕ) × (slice_get edges i ≡ Some e) = at_has edges e h in (suc there.0, there.1)
    ] refl h

-- what stands no earlier is not less
pub later_at_most : (edges : List Edge) (i k : ℕ) (d e : Edge) → IsSorted edges → i ≤ k → slice_get edges i ≡ Some d
    → slice_get edges k ≡ Some e → AtMost d e
later_at_most edges i k d e sorted le p q =
    elim (cases_lt i k) [
      | inl l ↦ before_at_most d e (sorted.by_place i k d e l p q)
      | inr ge ↦ let same : i ≡ k = omega arith in let here : d ≡ e = cc in subst (λ (x : Edge). AtMost d x) here (at_most_self d)
    ]

sorted_tail : (d : Edge) (edges : List Edge) → IsSorted (d ∷ edges) → IsSorted edges
sorted_tail d edges s = record { by_place = λ i j c e l p q. s.by_place (suc i) (suc j) c e (omega arith) p q }

head_before : (d e : Edge) (edges : List Edge) → IsSorted (d ∷ edges) → has edges e ≡ true → Before d e
head_before d e edges s h = let there = at_has edges e h in s.by_place zero (suc there.0) d e (omega arith) refl there.1

first_or_later : (d e : Edge) (edges : List Edge) → has (d ∷ edges) e ≡ true → (d ≡ e) ⊎ (has edges e ≡ true)
first_or_later d e edges h = search (rules, same_edge_true)

has_head : (d : Edge) (edges : List Edge) → has (d ∷ edges) d ≡ true
has_head d edges = rw (same_edge_self d) refl

-- two lists in order that have the same edges begin with the same one
heads_same : (c d : Edge) (xs ys : List Edge) → IsSorted (c ∷ xs) → IsSorted (d ∷ ys)
    → ((e : Edge) → has (c ∷ xs) e ≡ has (d ∷ ys) e) → c ≡ d
heads_same c d xs ys p q same =
    let there : has (d ∷ ys) c ≡ true = (let s = same c in let h = has_head c xs in cc) in
    let back : has (c ∷ xs) d ≡ true = (let s = same d in let h = has_head d ys in cc) in
    search (rules, first_or_later, not_before_both, head_before)

tails_same : (d : Edge) (xs ys : List Edge) → IsSorted (d ∷ xs) → IsSorted (d ∷ ys)
    → ((e : Edge) → has (d ∷ xs) e ≡ has (d ∷ ys) e) → (e : Edge) → has xs e ≡ has ys e
tails_same d xs ys p q same e = search (rules, or-true, first_or_later, not_before_self, head_before)

-- a list in order is determined by the edges that it has
pub one_table : (xs ys : List Edge) → IsSorted xs → IsSorted ys → ((e : Edge) → has xs e ≡ has ys e) → xs ≡ ys
one_table [] [] p q same = refl
one_table [] (d ∷ ys) p q same = absurd (let s = same d in let h = has_head d ys in cc)
one_table (c ∷ xs) [] p q same = absurd (let s = same c in let h = has_head c xs in cc)
one_table (c ∷ xs) (d ∷ ys) p q same =
    let is : c ≡ d = heads_same c d xs ys p q same in
    let q' : IsSorted (c ∷ ys) = subst (λ (x : Edge). IsSorted (x ∷ ys)) (sym is) q in
    let same' : (e : Edge) → has (c ∷ xs) e ≡ has (c ∷ ys) e = search (rules) in
    let rest : xs ≡ ys = one_table xs ys (sorted_tail c xs p) (sorted_tail c ys q') (tails_same c xs ys p q' same') in
    cc

-- ---- the test, and membership

pub contains_has : (edges : List Edge) (e : Edge) → Contains edges e → has edges e ≡ true
contains_has edges e c = has_at edges c.0 e (slice_get_read edges _ c.0 e refl c.1 (sym c.2))

pub has_contains : (edges : List Edge) (e : Edge) → has edges e ≡ true → Contains edges e
has_contains edges e h = let there = at_has edges e h in
    (there.0, slice_get_within edges there.0 e there.1, get_or_from_slice_get edges there.0 e e there.1)

pub has-contains : (edges : List Edge) (l : ℕ) (a : Authority) (m : ℕ) → (Has edges l a m) ↔ (Contains edges (edge l a m))
has-contains edges l a m = (has_contains edges (edge l a m), contains_has edges (edge l a m))
