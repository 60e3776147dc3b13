-- The paths that numbers of labels stand for.
use Rattle.std.specs.Prelude.{◌≡◌, ℕ, true, Some, None, slice_get}
use Rattle.adl_meaning.specs.Prelude.{Path, Source, flat_of}
use Rattle.adl_meaning.specs.declared.flat.Domain.{Domain}
use Rattle.adl_meaning.specs.declared.flat.Flat.{Flat}
use Rattle.adl_meaning.specs.declared.flat.FlatConnection.{FlatConnection}
use Rattle.adl_meaning.specs.declared.flat.Leaf.{Leaf}
use Rattle.adl_settings.specs.Settled.{settled_of}
use Rattle.arch_policy.specs.declared.owner.Owner.{Owner}
use Rattle.arch_policy.specs.Owners.{has_label}
use Rattle.arch_policy.specs.declared.owner.Owner.TheVariants.{OfConnection, OfDomain, OfLeaf}
use Rattle.arch_policy.specs.Tables.{Tables, number_of}
use Rattle.arch_policy.specs.declared.numbers.LabelNumbers.{LabelNumbers}

-- what has a label, with its path
abbrev pub HasPath : Flat → Owner → Path → Type 0
HasPath flat (OfDomain d) p = (domain : Domain) × (slice_get flat.domains d ≡ Some domain) × (domain.path ≡ p)
HasPath flat (OfConnection k) p =
    (c : FlatConnection) × (slice_get flat.connections k ≡ Some c) × (has_label c.connector ≡ true) × (c.path ≡ p)
HasPath flat (OfLeaf l) p = (leaf : Leaf) × (slice_get flat.leaves l ≡ Some leaf) × (leaf.domain ≡ None) × (leaf.path ≡ p)

-- the number of the label with this path
pub record IsNamed (t : Tables) (label : ℕ) (path : Path) : Type 0 where
  pub labelled : Owner
  pub there : HasPath t.flat labelled path
  pub is : label ≡ number_of t.numbers labelled

-- no two labels have one path
abbrev pub ArePathsApart : Flat → Type 0
ArePathsApart flat = (x y : Owner) (p : Path) → HasPath flat x p → HasPath flat y p → x ≡ y

-- the tables of a source, with any numbers of labels
abbrev pub tables_with : Source → LabelNumbers → Tables
tables_with s numbers = record { source = s; flat = flat_of s; settled = settled_of s; numbers = numbers }
