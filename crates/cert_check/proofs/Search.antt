-- A search through a table, place by place, for the least thing with a property. Each such thing x names an edge `w x` of the
-- table.
use Rattle.cert_check.proofs.Common.{AreOthers, AtMost, Authority, Edge, IsSorted, arith, at_has, cases_lt, has, inl, inr, later_at_most, rules, slice_get_within}
use Rattle.std.specs.Prelude.{◌≡◌, ◌<◌, ◌≤◌, ℕ, ◌+◌, true, List, slice_get, Some, length}

-- nothing with the property names an edge before this place
pub record NoneUpTo {X : Type 0} (P : X → Type 0) (w : X → Edge) (table : List Edge) (i : ℕ) : Type 0 where
  pub none : (k : ℕ) (x : X) → k < i → slice_get table k ≡ Some (w x) → P x → ⊥

module _ {X : Type 0} (P : X → Type 0) (w : X → Edge) (table : List Edge) where
  pub none_start : NoneUpTo P w table 0
  none_start = record { none = λ k x l p m. omega arith }

  pub none_more : (i : ℕ) (e : Edge) → NoneUpTo P w table i → slice_get table i ≡ Some e → ((x : X) → w x ≡ e → P x → ⊥)
      → NoneUpTo P w table (i + 1)
  none_more i e before here none = search (rules, cases_lt)

  pub none_on : (a : Authority) (i j : ℕ) → ((x : X) → P x → (w x).authority ≡ a) → AreOthers table a i j → NoneUpTo P w table i
      → NoneUpTo P w table j
  none_on a i j is others before = search (rules, cases_lt)

  pub none_end : ((x : X) → P x → has table (w x) ≡ true) → (i : ℕ) → length table ≤ i → NoneUpTo P w table i → (x : X) → P x → ⊥
  none_end named i le before x m = search (rules, at_has, slice_get_within)

  -- what is found at the first place is least: each other names an edge that is no less
  pub found_first : ((x : X) → P x → has table (w x) ≡ true) → (i : ℕ) (e : Edge) → IsSorted table → NoneUpTo P w table i
      → slice_get table i ≡ Some e
      → (x : X) → P x → AtMost e (w x)
  found_first named i e sorted before here x m =
      let there : (k : ℕ) × (slice_get table k ≡ Some (w x)) = at_has table (w x) (named x m) in
      elim (cases_lt there.0 i) [
        | inl less ↦ absurd (before.none there.0 x less there.1 m)
        | inr ge ↦ later_at_most table i there.0 e (w x) sorted ge here there.1
      ]
