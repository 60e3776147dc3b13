-- A source without its hierarchy: its leaves, its domains and its connections, each in order and told by number. Leaves
-- stand in the order of the walk, domains in the order of their first leaves, connections in the order of their walk, and
-- the ends of a connection in the order of the source.
use Rattle.std.specs.Prelude.{ℕ, Bool, false, ◌&&◌, not, if◌then◌else◌, List, map, ◌∷◌, ◌++◌, [], Some, None, option_map, unwrap_or}
use Rattle.adl_meaning.specs.Below.{End, Member, Source, bytes_eq, enumerate_from, filter, filter_map, option_map_or}
use Rattle.adl_ast.specs.declared.component.Member.TheVariants as members
use Rattle.adl_meaning.specs.declared.flat.Domain.{Domain}
use Rattle.adl_meaning.specs.declared.flat.Flat.{Flat}
use Rattle.adl_meaning.specs.declared.flat.FlatConnection.{FlatConnection}
use Rattle.adl_meaning.specs.declared.flat.FlatEnd.{FlatEnd}
use Rattle.adl_meaning.specs.declared.flat.Leaf.{Leaf}
use Rattle.adl_meaning.specs.declared.item_at.ItemAt.{ItemAt}
use Rattle.adl_meaning.specs.Domains.{domain_of, domains, is_hardware}
use Rattle.adl_meaning.specs.Hierarchy.{Hierarchy, Part, body, hierarchy_of}
use Rattle.adl_meaning.specs.Items.{Name}
use Rattle.adl_meaning.specs.Joins.{Reached, Strung, joined_by, connections}
use Rattle.adl_meaning.specs.Lists.{place_by}
use Rattle.adl_meaning.specs.Paths.{Path, Placed, leaves, same_path}

-- ---- leaves and domains

-- the number of the leaf at the path
abbrev pub leaf_number : Hierarchy → Path → ℕ
leaf_number h p = place_by (λ x. same_path p x.path) (leaves h)

-- the number of the domain with the path
abbrev pub domain_number : Hierarchy → Path → ℕ
domain_number h p = place_by (same_path p) (domains h)

-- where the component of an instance stands; each has one
abbrev pub item_of : Hierarchy → Part → ItemAt
item_of h x = unwrap_or (body h x.kind).item (record { file = 0; item = 0 })

abbrev pub leaf_of : Hierarchy → Placed → Leaf
leaf_of h x = record {
  path = x.path;
  component = item_of h x.part;
  place = x.part.instance.component.place;
  hardware = is_hardware h x.part;
  domain = if is_hardware h x.part then None else Some (domain_number h (domain_of h x.path));
}

-- whether it is a leaf of the domain with this path
abbrev pub is_inside : Hierarchy → Path → Placed → Bool
is_inside h d x = not (is_hardware h x.part) && same_path (domain_of h x.path) d

abbrev pub flat_domain : Hierarchy → Path → Domain
flat_domain h d = record { path = d; leaves = map (λ x. x.0) (filter (λ x. is_inside h d x.1) (enumerate_from 0 (leaves h))) }

-- ---- connections

abbrev pub is_interface : Name → Member → Bool
is_interface n (members.Interface i) = bytes_eq n i.id.name
is_interface n (members.Control p) = false
is_interface n (members.Hardware p) = false
is_interface n (members.Include i) = false
is_interface n (members.Attribute a) = false
is_interface n (members.Lock l) = false
is_interface n (members.Composition k) = false
is_interface n (members.Configuration f) = false

-- the place of an interface among the members of the instance's component
abbrev pub member_number : Hierarchy → Part → Name → ℕ
member_number h x i = option_map_or (λ c. place_by (is_interface i) c.members) (body h x.kind).component 0

-- an end of a connection of the composition at q, at the interface that it joins
abbrev pub flat_end : Hierarchy → Path → End → Reached → FlatEnd
flat_end h q e r = record {
  role = e.role;
  leaf = leaf_number h (q ++ r.path);
  member = member_number h r.part r.interface;
  place = e.place;
}

-- an end that joins nothing is left out; where no fault of names stands, each joins an interface
abbrev pub flat_ends : Hierarchy → Strung → List FlatEnd
flat_ends h x = filter_map (λ e. option_map (flat_end h x.path e) (joined_by h x.inside e)) x.wire.1.ends

abbrev pub flat_connection : Hierarchy → Strung → FlatConnection
flat_connection h x = record {
  path = x.path ++ x.wire.1.id.name ∷ [];
  connector = x.wire.0;
  place = x.wire.1.id.place;
  ends = flat_ends h x;
}

-- ---- all

abbrev pub flattened : Hierarchy → Flat
flattened h = record {
  leaves = map (leaf_of h) (leaves h);
  domains = map (flat_domain h) (domains h);
  connections = map (flat_connection h) (connections h);
}

abbrev pub flat_of : Source → Flat
flat_of s = flattened (hierarchy_of s)
