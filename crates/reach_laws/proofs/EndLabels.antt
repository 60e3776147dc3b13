-- The labels of ends and locks.
use Rattle.reach_laws.proofs.Common.{AreApart, Bool, Connector, EndAt, From, Handles, Interrupt, IsEnd, IsFlat, IsThere, Leaf, LockAt, Role, Some, Tables, ap, connection_label, domain_label, false, has_label, is_at_device, leaf_label, number_of}
use Rattle.reach_laws.proofs.Common.{owner_in, refl, rules, slice_get, sym, true, ℕ, ◌∙◌, ◌≡◌}
use Rattle.std.specs.Option.{option_map_or}
use Rattle.arch_policy.specs.declared.owner.Owner.TheVariants.{OfDomain, OfConnection, OfLeaf}
use Rattle.conn_rules.specs.Ends.{end_rule}

-- a label that is a domain's, and one that is a device's
pub record IsDomains (t : Tables) (label : ℕ) : Type 0 where
  pub domain : ℕ
  pub there : IsThere t.flat (OfDomain domain)
  pub is : label ≡ domain_label t domain

pub record IsDevices (t : Tables) (label : ℕ) : Type 0 where
  pub device : ℕ
  pub there : IsThere t.flat (OfLeaf device)
  pub is : label ≡ number_of t.numbers (OfLeaf device)

rule_of_end : (c : Connector) (r : Role) (d : Connector) (q : Role) (b : Bool) → c ≡ d → r ≡ q → (end_rule d q).hardware ≡ b
    → (end_rule c r).hardware ≡ b
rule_of_end c r d q b e f h = ap (λ x. (end_rule x r).hardware) e ∙ ap (λ x. (end_rule d x).hardware) f ∙ h

module _ (t : Tables) where
  pub same_connection : (x y : EndAt t.flat) → y.place ≡ x.place → y.connection ≡ x.connection
  same_connection x y e = cc

  -- the label of a leaf that is found
  pub label_of_leaf : (l : ℕ) (leaf : Leaf) → slice_get t.flat.leaves l ≡ Some leaf
      → leaf_label t l ≡ number_of t.numbers (owner_in l leaf.domain)
  label_of_leaf l leaf e = ap (λ z. number_of t.numbers (option_map_or (λ (y : Leaf). owner_in l y.domain) z (OfLeaf l))) e

module _ (t : Tables) (flat : IsFlat t.source t.flat) where
  -- an end of software is of a leaf of a domain
  pub domain_end : (x : EndAt t.flat) → is_at_device x ≡ false → IsDomains t (leaf_label t x.end.leaf)
  domain_end x soft =
      let j = flat.joined x in let d = flat.software x j.leaf soft j.here in
      let l = flat.listed x.end.leaf d.0 j.leaf j.here d.1 in
      record {
        domain = d.0;
        there = (l.0, l.1);
        is = label_of_leaf t x.end.leaf j.leaf j.here
            ∙ ap (λ z. number_of t.numbers (owner_in x.end.leaf z)) d.1;
      }

  pub end_domain : (c : Connector) (r : Role) (x : EndAt t.flat) → IsEnd c r x → (end_rule c r).hardware ≡ false
      → IsDomains t (leaf_label t x.end.leaf)
  end_domain c r x is soft = domain_end x (rule_of_end x.connection.connector x.end.role c r false is.connector is.role soft)

  -- an end at a device has the label of its leaf
  pub own_label : (x : EndAt t.flat) → is_at_device x ≡ true → leaf_label t x.end.leaf ≡ number_of t.numbers (OfLeaf x.end.leaf)
  own_label x hard = search (rules, label_of_leaf)

  -- which is the device's
  pub device_end : (x : EndAt t.flat) → is_at_device x ≡ true → IsDevices t (leaf_label t x.end.leaf)
  device_end x hard =
      let j = flat.joined x in let none = flat.hardware x j.leaf hard j.here in
      record { device = x.end.leaf; there = (j.leaf, j.here, none); is = own_label x hard }

  -- the `from` end of an interrupt is a device's
  pub end_device : (x : EndAt t.flat) → IsEnd Interrupt From x → IsDevices t (leaf_label t x.end.leaf)
  end_device x is = device_end x (rule_of_end x.connection.connector x.end.role Interrupt From true is.connector is.role refl)

  pub lock_domain : (k : LockAt t.source t.flat) → IsThere t.flat (OfDomain k.domain)
  lock_domain k = let l = flat.listed k.leaf k.domain k.found k.here k.inside in (l.0, l.1)

  pub handler_domain : {l d : ℕ} (h : Handles t l d) → IsDomains t l
  handler_domain h = search (rules, end_domain)

  pub source_device : {l d : ℕ} (h : Handles t l d) → IsDevices t d
  source_device h = search (rules, end_device)

module _ (t : Tables) (apart : AreApart t) where
  pub domain_no_device : {l : ℕ} → IsDomains t l → IsDevices t l → ⊥
  domain_no_device d e =
      let same = apart (OfDomain d.domain) (OfLeaf e.device) d.there e.there (sym d.is ∙ e.is) in
      cc

  pub domain_no_connection : {l : ℕ} (k : ℕ) → IsDomains t l → IsThere t.flat (OfConnection k) → l ≡ connection_label t k → ⊥
  domain_no_connection k d there e =
      let same = apart (OfDomain d.domain) (OfConnection k) d.there there (sym d.is ∙ e) in
      cc

  pub one_connection : (j k : ℕ) → IsThere t.flat (OfConnection j) → IsThere t.flat (OfConnection k)
      → connection_label t j ≡ connection_label t k → j ≡ k
  one_connection j k here there e =
      let same = apart (OfConnection j) (OfConnection k) here there e in
      cc

  pub one_domain : (j k : ℕ) → IsThere t.flat (OfDomain j) → IsThere t.flat (OfDomain k)
      → domain_label t j ≡ domain_label t k → j ≡ k
  one_domain j k here there e =
      let same = apart (OfDomain j) (OfDomain k) here there e in
      cc

module _ (t : Tables) where
  pub there_connection : (x : EndAt t.flat) → has_label x.connection.connector ≡ true → IsThere t.flat (OfConnection x.place)
  there_connection x h = (x.connection, x.here, h)

  pub there_end : (c : Connector) (r : Role) (x : EndAt t.flat) → IsEnd c r x → has_label c ≡ true
      → IsThere t.flat (OfConnection x.place)
  there_end c r x is h = (x.connection, x.here, ap has_label is.connector ∙ h)
