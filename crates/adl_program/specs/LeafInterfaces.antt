-- Leaf interfaces: what stands at one, and what a dotted name means.
use Rattle.adl_meaning.specs.Prelude.{Body, Component, Hierarchy, Id, Interface, Member, Name, Reached, body, interface_of, is_device, is_interface, joins_once, option_and_then, option_map_or, place_by, port_in, reached, slice_get}
use Rattle.std.specs.Prelude.{Bool, List, None, Option, Some, false, option_map, ℕ}
use Rattle.adl_program.specs.declared.body.Port.{Port}
use Rattle.adl_ast.specs.declared.component.Member.TheVariants as members

-- an interface of a leaf, and whether the leaf is a device
pub record LeafInterface : Type 0 where
  pub interface : Interface
  pub hardware : Bool

abbrev pub as_leaf : Bool → Member → Option LeafInterface
as_leaf device (members.Interface i) = Some (record { interface = i; hardware = device })
as_leaf device _ = None

-- the first interface of the name among the members
abbrev pub leaf_in : Name → Component → Option LeafInterface
leaf_in j c = option_and_then (as_leaf (is_device c)) (slice_get c.members (place_by (is_interface j) c.members))

abbrev pub leaf_at : Body → Name → Option LeafInterface
leaf_at b j = option_and_then (leaf_in j) b.component

-- what c.j means in body k
abbrev pub leaf_by : Hierarchy → ℕ → Name × Name → Option LeafInterface
leaf_by h k port = option_and_then (λ r. leaf_at (body h r.part.kind) r.interface) (reached h k port)

-- what a dotted name means in body k
abbrev pub leaf_of : Hierarchy → ℕ → List Id → Option LeafInterface
leaf_of h k words = option_and_then (leaf_by h k) (port_in words)

-- ---- ports

-- what the name of an interface means in leaf k: the place of the interface among the members, or their number, and whether
-- one end alone may join it
abbrev pub port_at : ℕ → Body → Name → Port
port_at k b j = record {
  kind = k;
  member = option_map_or (λ c. place_by (is_interface j) c.members) b.component 0;
  once = option_map_or (λ i. joins_once (option_map_or is_device b.component false) i.kind)
      (option_and_then (λ c. interface_of c j) b.component) false;
}

abbrev pub port_reached : Hierarchy → Reached → Port
port_reached h r = port_at r.part.kind (body h r.part.kind) r.interface

-- what c.j means in body k
abbrev pub port_by : Hierarchy → ℕ → Name × Name → Option Port
port_by h k port = option_map (port_reached h) (reached h k port)

-- the interface at a place among the members
abbrev pub leaf_placed : ℕ → Body → Option LeafInterface
leaf_placed member b = option_and_then (λ c. option_and_then (as_leaf (is_device c)) (slice_get c.members member)) b.component

-- the leaf interface that a port is
abbrev pub leaf_from : Hierarchy → Port → Option LeafInterface
leaf_from h p = leaf_placed p.member (body h p.kind)
