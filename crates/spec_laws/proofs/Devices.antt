-- The device that a connection joins.
use Rattle.spec_laws.proofs.Common.{Bool, FlatConnection, FlatEnd, HasDevice, IsFlat, List, None, OfConnection, OfLeaf, Some, Tables, [], ap, arith, cond, device_place, end_rule, false, irq_owner, is_at_device, leaf_label, lt-ltb, not}
use Rattle.spec_laws.proofs.Common.{number_of, option_and_then, option_map_or, own_label, policy_tables, position, position_or_len, refl, rules, slice_get, slice_get_within, subst, suc, sym, true, zero, ℕ, ◌+◌, ◌∙◌, ◌∷◌, ◌≡◌}
use Rattle.arch_policy.specs.Ends.{EndAt}
use Rattle.system_spec.specs.Tables.{device_end as first_device, is_hardware}
use Rattle.spec_laws.proofs.Whose.{device_at}

-- the first that passes
pub first_found : {X : Type 0} (p : X → Bool) (xs : List X) (n : ℕ) (x : X) → slice_get xs n ≡ Some x → p x ≡ true
    → (y : X) × (slice_get xs (position_or_len p xs) ≡ Some y) × (p y ≡ true)
first_found p [] n x e h = cc
first_found {X} p (z ∷ zs) zero x e h = search (rules)
first_found {X} p (z ∷ zs) (suc n) x e h = by_test (p z) refl (first_found p zs n x e h) where
  by_test : (b : Bool) → p z ≡ b → ((y : X) × (slice_get zs (position_or_len p zs) ≡ Some y) × (p y ≡ true))
      → (y : X) × (slice_get (z ∷ zs) (cond (not b) (1 + position_or_len p zs) 0) ≡ Some y) × (p y ≡ true)
  by_test true q r = (z, refl, q)
  by_test false q r = grind (arith)

pub position_found : {X : Type 0} (p : X → Bool) (xs : List X) (y : X) → slice_get xs (position_or_len p xs) ≡ Some y
    → position p xs ≡ Some (position_or_len p xs)
position_found p xs y e = search (rules, lt-ltb, slice_get_within)

module _ (t : Tables) (flat : IsFlat t.source t.flat) where
  -- an end at the device, which is the first
  pub record DeviceOf (k : ℕ) (c : FlatConnection) : Type 0 where
    pub at : EndAt t.flat
    pub place : at.place ≡ k
    pub connection : at.connection ≡ c
    pub device : is_at_device at ≡ true
    pub owner : irq_owner k c ≡ OfLeaf at.end.leaf

  pub device_found : (k : ℕ) (c : FlatConnection) → slice_get t.flat.connections k ≡ Some c → HasDevice t.flat k → DeviceOf k c
  device_found k c here h =
      let x = h.at in
      let both : Some x.connection ≡ Some c = sym x.here ∙ ap (λ z. slice_get t.flat.connections z) h.place ∙ here in
      let same : x.connection ≡ c = cc in
      let test : FlatEnd → Bool = is_hardware c.connector in
      let f = first_found test c.ends x.number x.end (subst (λ (z : FlatConnection). slice_get z.ends x.number ≡ Some x.end) same
      x.stands) (subst (λ (z : FlatConnection). (end_rule z.connector x.end.role).hardware ≡ true) same h.device) in
      let n = position_or_len test c.ends in
      let at : slice_get c.ends n ≡ Some f.0 = f.1 in
      let placed : device_place c.connector c.ends ≡ Some n = position_found test c.ends f.0 at in
      let first : first_device c.connector c.ends ≡ Some f.0 = ap (λ z. option_and_then (slice_get c.ends) z) placed ∙ at in
      record {
        at = record { place = k; connection = c; here = here; number = n; end = f.0; stands = f.1 };
        place = refl;
        connection = refl;
        device = f.2;
        owner = ap (λ z. option_map_or (λ (e : FlatEnd). OfLeaf e.leaf) z (OfConnection k)) first;
      }

  -- its label is the device's
  pub device_label : (k : ℕ) (c : FlatConnection) → slice_get t.flat.connections k ≡ Some c → (d : DeviceOf k c)
      → number_of t.numbers (device_at t k) ≡ leaf_label (policy_tables t) d.at.end.leaf
  device_label k c here d = search (rules, device_at, own_label)
