-- What types give a flat system: each end joins an interface of a leaf, at its place among the members of the leaf's component,
-- and interface and leaf are as the connector table has them for the end.
use Rattle.std.specs.Prelude.{◌≡◌, ℕ, true, Some, slice_get}
use Rattle.adl_meaning.specs.Prelude.{Interface, Source}
use Rattle.adl_meaning.specs.declared.flat.Flat.{Flat}
use Rattle.adl_meaning.specs.declared.flat.FlatConnection.{FlatConnection}
use Rattle.adl_meaning.specs.declared.flat.FlatEnd.{FlatEnd}
use Rattle.adl_meaning.specs.declared.flat.Leaf.{Leaf}
use Rattle.adl_ast.specs.declared.component.Member.TheVariants as members
use Rattle.adl_types.specs.TypeFaults.{is_kind_of}
use Rattle.conn_rules.specs.Ends.{end_rule}
use Rattle.cspace_layout.specs.Members.{members_at}

pub record IsTypedEnd (s : Source) (flat : Flat) (c : FlatConnection) (e : FlatEnd) : Type 0 where
  pub leaf : Leaf
  pub here : slice_get flat.leaves e.leaf ≡ Some leaf
  pub interface : Interface
  pub joined : slice_get (members_at s leaf.component) e.member ≡ Some (members.Interface interface)
  pub kind : is_kind_of (end_rule c.connector e.role) (record { interface = interface; hardware = leaf.hardware }) ≡ true

abbrev pub AreTyped : Source → Flat → Type 0
AreTyped s flat =
    (k n : ℕ) (c : FlatConnection) (e : FlatEnd) → slice_get flat.connections k ≡ Some c → slice_get c.ends n ≡ Some e
    → IsTypedEnd s flat c e
