-- Least edges of several searches.
use Rattle.cert_check.proofs.Common.{Authority, Cap, CapLack, Edge, Finds, LesserEdge, SlotsLack, Spec, arith, at_most_trans, before_at_most, cases_lt, confers, edge, edges_same, has, inl, inr, label_of, number_of, rules, same_number}
use Rattle.std.specs.Prelude.{◌≡◌, ◌≢◌, ◌⊎◌, ◌<◌, ◌≤◌, ℕ, ◌+◌, Bool, true, false, List, slice_get, Option, Some, None, refl}
use Rattle.authorities.proofs.AuthorityBits.{number_of-lt}

module _ (P Q : Edge → Type 0) where
  -- the same property in other words
  pub finds_same : ((e : Edge) → P e → Q e) → ((e : Edge) → Q e → P e) → (r : Option Edge) → Finds P r → Finds Q r
  finds_same to from None none = λ e q. none e (from e q)
  finds_same to from (Some b) found = (to b found.0, λ e q. found.1 e (from e q))

  -- the lesser of two searches is the least of both
  pub finds_either : (a b kept : Option Edge) → Finds P a → Finds Q b → LesserEdge a b kept → Finds (λ e. P e ⊎ Q e) kept
  finds_either None None kept p q is = rw is (λ e h. elim h [ inl x ↦ p e x | inr x ↦ q e x ])
  finds_either None (Some new) kept p q is = rw is (inr q.0, λ e h. elim h [ inl x ↦ absurd (p e x) | inr x ↦ q.1 e x ])
  finds_either (Some old) None kept p q is = rw is (inl p.0, λ e h. elim h [ inl x ↦ p.1 e x | inr x ↦ absurd (q e x) ])
  finds_either (Some old) (Some new) kept p q (inl is) = search (rules, at_most_trans, before_at_most)
  finds_either (Some old) (Some new) kept p q (inr is) =
      rw is.1 (inl p.0, λ e h. elim h [ inl x ↦ p.1 e x | inr x ↦ at_most_trans old new e is.0 (q.1 e x) ])

module _ (spec : Spec) (cert : List Edge) (within : Bool) (l m : ℕ) (cap : Cap) where
  -- no lack has an authority below n
  pub record NoneBelow (n : ℕ) : Type 0 where
    pub none : (e : Edge) → number_of e.authority < n → CapLack spec cert within l m cap e → ⊥

  pub cap_found : (n : ℕ) (a : Authority) → NoneBelow n → number_of a ≡ n → (within ≡ false → l ≢ m) → confers spec cap a ≡ true
      → has cert (edge l a m) ≡ false
      → Finds (CapLack spec cert within l m cap) (Some (edge l a m))
  cap_found n a before is wanted conf lacks = search (rules, cases_lt)

  pub cap_none : (n : ℕ) → 12 ≤ n → NoneBelow n → (e : Edge) → CapLack spec cert within l m cap e → ⊥
  cap_none n le before e lack = let b = number_of-lt e.authority in before.none e (omega arith) lack

  pub cap_more : (n : ℕ) (a : Authority) → NoneBelow n → number_of a ≡ n → (CapLack spec cert within l m cap (edge l a m) → ⊥)
      → NoneBelow (n + 1)
  cap_more n a before is none = search (rules, cases_lt, same_number, edges_same)

module _ (spec : Spec) (labels : List ℕ) (cert : List Edge) (within : Bool) (l : ℕ) (slots : List (ℕ × Cap)) where
  pub slots_start : Finds (SlotsLack spec labels cert within l slots 0) None
  slots_start e lack = let b = lack.below in omega arith

  pub slots_more : (i : ℕ) (slot : ℕ × Cap) (best found kept : Option Edge) → slice_get slots i ≡ Some slot
      → Finds (SlotsLack spec labels cert within l slots i) best
      → Finds (CapLack spec cert within l (label_of labels slot.1.object) slot.1) found → LesserEdge best found kept
      → Finds (SlotsLack spec labels cert within l slots (i + 1)) kept
  slots_more i slot best found kept here before now is =
      finds_same (λ e. SlotsLack spec labels cert within l slots i e ⊎ CapLack spec cert within l (label_of labels slot.1.object)
      slot.1 e) (SlotsLack spec labels cert within l slots (i + 1))
      (λ e h. elim h [
        | inl x ↦ search (rules)
        | inr x ↦ record { place = i; slot = slot; below = omega arith; there = here; lack = x }
      ])
      (λ e x.
      elim (cases_lt x.place i) [
        | inl below ↦ inl (record { place = x.place; slot = x.slot; below = below; there = x.there; lack = x.lack })
        | inr ge ↦ search (rules)
      ])
      kept
      (finds_either (SlotsLack spec labels cert within l slots i) (CapLack spec cert within l (label_of labels slot.1.object)
      slot.1) best found kept before now is)
