-- Components of one number hold each other.
use Rattle.adl_hierarchy.proofs.Common.{AreCycleNumbers, Holds, InRange, List, Walk, ap, arith, has, inl, inner_of, inr, length, rules, subst, suc, sym, true, zero, ℕ, ◌<◌, ◌↔◌, ◌≡◌, ◌≤◌}
use Rattle.adl_hierarchy.proofs.Through.{walk_join}

-- no walk leads to a smaller rank
walk_rises : (g : List (List ℕ)) → InRange g → (number rank : ℕ → ℕ) → AreCycleNumbers g number rank → (n a b : ℕ) → a < length g
    → Walk g a b n → rank (number a) ≤ rank (number b)
walk_rises g r number rank are zero a b l w = let e : rank (number a) ≡ rank (number b) =
    ap (λ x. rank (number x)) w in omega arith
walk_rises g r number rank are (suc n) a b l w =
    let rest : rank (number w.0) ≤ rank (number b) = walk_rises g r number rank are n w.0 b (r a w.0 l w.1) w.2 in
    search (rules)

pub exact : (g : List (List ℕ)) → InRange g → (number rank : ℕ → ℕ) → AreCycleNumbers g number rank → (a c : ℕ) → a < length g
    → has (inner_of g a) c ≡ true → (number c ≡ number a) ↔ Holds g c a
exact g r number rank are a c l e = (
  λ s.
      let there = are.inwards c (r a c l e) in
      let on = subst (λ n. Holds g n a) (sym s) (are.outwards a l) in
      walk_join g there.0 on.0 c (number c) a there.1 on.1,
  λ k.
      let up : rank (number c) ≤ rank (number a) = walk_rises g r number rank are k.0 c a (r a c l e) k.1 in
      elim (are.rises a c l e) [ inl s ↦ s | inr q ↦ absurd (omega arith) ],
)
