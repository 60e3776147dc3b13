-- What the policy of a system is made from: the source, its flat, settled system, and the numbers of labels. What is looked up
-- by a number that nothing has is 0.
use Rattle.std.specs.Prelude.{◌≡◌, ℕ, true, Some, None, slice_get, slice_index}
use Rattle.arch_policy.specs.Below.{Domain, Flat, FlatConnection, Leaf, Source}
use Rattle.adl_meaning.specs.declared.settled.Settled.{Settled}
use Rattle.arch_policy.specs.declared.numbers.LabelNumbers.{LabelNumbers}
use Rattle.arch_policy.specs.declared.owner.Owner.{Owner}
use Rattle.arch_policy.specs.declared.owner.Owner.TheVariants.{OfDomain, OfConnection, OfLeaf}
use Rattle.arch_policy.specs.declared.tables.Tables.{Tables as Given}
use Rattle.arch_policy.specs.Labels.{label_numbers}
use Rattle.arch_policy.specs.Owners.{has_label, leaf_owner}

pub record Tables : Type 0 where
  pub source : Source
  pub flat : Flat
  pub settled : Settled
  pub numbers : LabelNumbers

-- with labels numbered in the byte order of their texts
abbrev pub tables_of : Source → Flat → Settled → Tables
tables_of source flat settled = record { source = source; flat = flat; settled = settled; numbers = label_numbers flat }

-- the tables that references lead to
abbrev pub told : Given → Tables
told t = record { source = t.source.now; flat = t.flat.now; settled = t.settled.now; numbers = t.numbers.now }

-- ---- labels

abbrev pub number_of : LabelNumbers → Owner → ℕ
number_of numbers (OfDomain d) = slice_index numbers.domains d
number_of numbers (OfConnection k) = slice_index numbers.connections k
number_of numbers (OfLeaf l) = slice_index numbers.devices l

abbrev pub domain_label : Tables → ℕ → ℕ
domain_label t d = number_of t.numbers (OfDomain d)

abbrev pub connection_label : Tables → ℕ → ℕ
connection_label t k = number_of t.numbers (OfConnection k)

-- the label of a leaf's domain, and of a device its own
abbrev pub leaf_label : Tables → ℕ → ℕ
leaf_label t leaf = number_of t.numbers (leaf_owner t.flat leaf)

-- ---- labels that are apart

abbrev pub IsThere : Flat → Owner → Type 0
IsThere flat (OfDomain d) = (domain : Domain) × (slice_get flat.domains d ≡ Some domain)
IsThere flat (OfConnection k) = (c : FlatConnection) × (slice_get flat.connections k ≡ Some c) × (has_label c.connector ≡ true)
IsThere flat (OfLeaf l) = (leaf : Leaf) × (slice_get flat.leaves l ≡ Some leaf) × (leaf.domain ≡ None)

-- no two that have a label have one number
abbrev pub AreApart : Tables → Type 0
AreApart t = (x y : Owner) → IsThere t.flat x → IsThere t.flat y → number_of t.numbers x ≡ number_of t.numbers y → x ≡ y
