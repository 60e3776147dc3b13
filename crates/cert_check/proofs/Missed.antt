-- The search for the least missing copy.
use Rattle.cert_check.proofs.Common.{AtMost, Edge, Finds, IsFirstFrom, IsSorted, Missing, Reply, ap, arith, at_has, cases_lt, edge, has, has_at, inl, inr, later_at_most, rules, sym}
use Rattle.std.specs.Prelude.{◌≤◌, ◌≡◌, ◌≢◌, ◌<◌, ℕ, ◌+◌, true, false, List, slice_get, Some, refl}

-- the edge of d out of s
abbrev pub original : ℕ → Edge → Edge
original s d = edge s d.authority d.to

module _ (cert : List Edge) (s r : ℕ) where
  -- no edge is missing whose original stands before place i
  pub record NoneBefore (i : ℕ) : Type 0 where
    pub none : (k : ℕ) (d : Edge) → k < i → slice_get cert k ≡ Some (original s d) → Missing cert s r d → ⊥

  pub none_start : (low : ℕ) → IsFirstFrom cert s low → NoneBefore low
  none_start low first = record { none = λ k d l p m. let f : s < s = first.below k (original s d) l p in omega arith }

  pub none_more : (i : ℕ) (e : Edge) → NoneBefore i → slice_get cert i ≡ Some e
      → ((d : Edge) → original s d ≡ e → Missing cert s r d → ⊥) → NoneBefore (i + 1)
  none_more i e before here none = search (rules, cases_lt)

  pub none_end : (high i : ℕ) → IsFirstFrom cert (s + 1) high → high ≤ i → NoneBefore i → (d : Edge) → Missing cert s r d → ⊥
  none_end high i past le before d m = search (rules, at_has, cases_lt)

  pub other_label : (e : Edge) → e.from ≢ s → (d : Edge) → original s d ≡ e → Missing cert s r d → ⊥
  other_label e differ d same m = differ (sym (ap (λ (x : Edge). x.from) same))

  pub is_reply : (e : Edge) → e.authority ≡ Reply → (d : Edge) → original s d ≡ e → Missing cert s r d → ⊥
  is_reply e reply d same m = m.other (let f : d.authority ≡ e.authority = ap (λ (x : Edge). x.authority) same in cc)

  pub is_there : (e : Edge) → has cert (edge r e.authority e.to) ≡ true → (d : Edge) → original s d ≡ e → Missing cert s r d → ⊥
  is_there e there d same m = search (rules)

  pub found : (i : ℕ) (e : Edge) → IsSorted cert → NoneBefore i → slice_get cert i ≡ Some e → e.from ≡ s → e.authority ≢ Reply
      → has cert (edge r e.authority e.to) ≡ false
      → Finds (Missing cert s r) (Some (edge r e.authority e.to))
  found i e sorted before here out other lacks = (
    record { out = refl; other = other; there = rw (← out) (has_at cert i e here); lacks = lacks },
    λ d m.
        let there : (k : ℕ) × (slice_get cert k ≡ Some (original s d)) = at_has cert (original s d) m.there in
        elim (cases_lt there.0 i) [
          | inl less ↦ absurd (before.none there.0 d less there.1 m)
          | inr ge ↦
              let least : AtMost e (original s d) = later_at_most cert i there.0 e (original s d) sorted ge here there.1 in
              let to : d.from ≡ r = m.out in
              record { by_from = omega arith; by_authority = λ f. omega arith; by_to = λ f g. omega arith }
        ],
  )
