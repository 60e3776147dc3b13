-- What the flat system of a source without faults keeps: domains list just their leaves; an end joins a member of a leaf, which
-- is a device's just where the connector table says so; and an interrupt, or a connection to a device's registers, has one end
-- at a device.
use Rattle.std.specs.Prelude.{◌≡◌, ℕ, Bool, true, false, Some, None, slice_get}
use Rattle.reach_laws.specs.Below.{EndAt}
use Rattle.adl_ast.specs.declared.component.Member.{Member}
use Rattle.adl_ast.specs.declared.source.Source.{Source}
use Rattle.adl_meaning.specs.declared.connector.Connector.TheVariants.{Mmio, Interrupt}
use Rattle.adl_meaning.specs.declared.flat.Domain.{Domain}
use Rattle.adl_meaning.specs.declared.flat.Flat.{Flat}
use Rattle.adl_meaning.specs.declared.flat.FlatConnection.{FlatConnection}
use Rattle.adl_meaning.specs.declared.flat.Leaf.{Leaf}
use Rattle.conn_rules.specs.Ends.{end_rule}
use Rattle.cspace_layout.specs.Members.{members_at}
use Rattle.cam_base.specs.Gather.{IsIn}

-- the leaf, and the member of it that the end joins
pub record IsJoined (source : Source) (flat : Flat) (x : EndAt flat) : Type 0 where
  pub leaf : Leaf
  pub here : slice_get flat.leaves x.end.leaf ≡ Some leaf
  pub member : Member
  pub joins : slice_get (members_at source leaf.component) x.end.member ≡ Some member

-- whether the connector table has the end at a device
abbrev pub is_at_device : {flat : Flat} → EndAt flat → Bool
is_at_device x = (end_rule x.connection.connector x.end.role).hardware

-- an end at a device, of this connection
pub record HasDevice (flat : Flat) (k : ℕ) : Type 0 where
  pub at : EndAt flat
  pub place : at.place ≡ k
  pub device : is_at_device at ≡ true

pub record IsFlat (source : Source) (flat : Flat) : Type 0 where
  pub listed : (l d : ℕ) (leaf : Leaf) → slice_get flat.leaves l ≡ Some leaf → leaf.domain ≡ Some d
      → (domain : Domain) × (slice_get flat.domains d ≡ Some domain) × IsIn l domain.leaves
  pub owned : (d l : ℕ) (domain : Domain) → slice_get flat.domains d ≡ Some domain → IsIn l domain.leaves
      → (leaf : Leaf) × (slice_get flat.leaves l ≡ Some leaf) × (leaf.domain ≡ Some d)
  pub joined : (x : EndAt flat) → IsJoined source flat x
  pub software : (x : EndAt flat) (leaf : Leaf) → is_at_device x ≡ false → slice_get flat.leaves x.end.leaf ≡ Some leaf
      → (d : ℕ) × (leaf.domain ≡ Some d)
  pub hardware : (x : EndAt flat) (leaf : Leaf) → is_at_device x ≡ true → slice_get flat.leaves x.end.leaf ≡ Some leaf
      → leaf.domain ≡ None
  pub interrupts : (k : ℕ) (c : FlatConnection) → slice_get flat.connections k ≡ Some c → c.connector ≡ Interrupt
      → HasDevice flat k
  pub registers : (k : ℕ) (c : FlatConnection) → slice_get flat.connections k ≡ Some c → c.connector ≡ Mmio → HasDevice flat k
  pub one_device : (x y : EndAt flat) → y.place ≡ x.place → is_at_device x ≡ true → is_at_device y ≡ true → y.number ≡ x.number
