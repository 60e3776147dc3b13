-- The template of a body: its leaves and its connections, with paths that begin at the body and leaves told by their numbers
-- among those of the body. The template of the assembly is the flat system.
--
-- An instance places the template of its component: its name comes in front of each path, and the number of leaves before it
-- is added to each leaf's number. Leaves below a group are at home at the outermost one.
use Rattle.adl_meaning.specs.Prelude.{End, Hierarchy, Id, Name, Part, Path, Placed, Reached, Strung, Wire, body, export_named, exports_of, filter_map, flat_map, group_above, group_or, is_composite, is_once, joined_by, leaves_in, member_number, name_of, option_and_then, outside, place_by, port_in, reached, same_path, strung, wires_of}
use Rattle.std.specs.Prelude.{Bool, List, None, Option, Some, [], if◌then◌else◌, length, map, option_map, slice_index_or, take, ℕ, ◌++◌, ◌+◌, ◌∷◌}
use Rattle.adl_meaning.specs.Joins.{connections_in}
use Rattle.adl_program.specs.LedEnds.{LedEnd, LedWire}
use Rattle.adl_program.specs.declared.leads.Lead.{Lead}

-- ---- leaves

-- a leaf, and the path of the outermost group above it
pub record Homed : Type 0 where
  pub leaf : Placed
  pub home : Option Path

abbrev pub homed : Hierarchy → ℕ → Placed → Homed
homed h k x = record { leaf = x; home = group_above h k x.path }

abbrev pub template_leaves : Hierarchy → ℕ → List Homed
template_leaves h k = map (homed h k) (leaves_in h k)

-- the number of the leaf at the path among the leaves of body k
abbrev pub leaf_place : Hierarchy → ℕ → Path → ℕ
leaf_place h k p = place_by (λ x. same_path p x.path) (leaves_in h k)

-- ---- connections

-- an end, with the interface of a leaf that it joins, and whether one end alone may join it
pub record Joined : Type 0 where
  pub end : End
  pub leaf : ℕ
  pub member : ℕ
  pub once : Bool

-- a connection with the path of its composition, and its ends
pub record Connected : Type 0 where
  pub path : Path
  pub wire : Wire
  pub ends : List Joined

abbrev pub end_in : Hierarchy → ℕ → Path → End → Reached → Joined
end_in h k q e r = record {
  end = e;
  leaf = leaf_place h k (q ++ r.path);
  member = member_number h r.part r.interface;
  once = is_once h r;
}

abbrev pub ends_in : Hierarchy → ℕ → Strung → List Joined
ends_in h k x = filter_map (λ e. option_map (end_in h k x.path e) (joined_by h x.inside e)) x.wire.1.ends

abbrev pub connection_in : Hierarchy → ℕ → Strung → Connected
connection_in h k x = record { path = x.path; wire = x.wire; ends = ends_in h k x }

abbrev pub template_connections : Hierarchy → ℕ → List Connected
template_connections h k = map (connection_in h k) (connections_in h k)

-- those of the composition itself
abbrev pub own_connections : Hierarchy → ℕ → List Connected
own_connections h k = map (connection_in h k) (map (strung k) (wires_of (body h k)))

-- ---- ports

abbrev pub target_in : Hierarchy → ℕ → Reached → ℕ
target_in h k r = leaf_place h k r.path

-- the number of the leaf that the interface c.j leads to in body k
abbrev pub target : Hierarchy → ℕ → Name × Name → Option ℕ
target h k port = option_map (target_in h k) (reached h k port)

-- that of the leaf that a dotted name leads to in body k
abbrev pub target_of : Hierarchy → ℕ → List Id → Option ℕ
target_of h k words = option_and_then (target h k) (port_in words)

-- an end of the composition itself
abbrev pub own_end : Hierarchy → ℕ → End → Option Joined
own_end h k e = option_map (end_in h k [] e) (joined_by h k e)

-- that of the leaf that the first export of body k under the name leads to
abbrev pub export_target : Hierarchy → ℕ → Name → Option (Option ℕ)
export_target h k n = option_map (λ e. target_of h k e.words) (export_named (exports_of (body h k)) n)

-- ---- placing

abbrev pub moved_leaf : Part → Homed → Homed
moved_leaf x l = record { leaf = outside (name_of x) l.leaf; home = group_or x.group (option_map (λ q. name_of x ∷ q) l.home) }

-- the leaves that an instance stands for
abbrev pub leaves_by : Hierarchy → Part → List Homed
leaves_by h x =
    if is_composite h x.kind
    then map (moved_leaf x) (template_leaves h x.kind)
    else record { leaf = record { path = name_of x ∷ []; part = x }; home = group_or x.group None } ∷ []

-- the number of leaves in front of instance number i of body k
abbrev pub leaves_before : Hierarchy → ℕ → ℕ → ℕ
leaves_before h k i = length (flat_map (leaves_by h) (take i (body h k).parts))

abbrev pub moved_end : ℕ → Joined → Joined
moved_end o e = record e { leaf = o + e.leaf }

abbrev pub moved_connection : Name → ℕ → Connected → Connected
moved_connection n o c = record c { path = n ∷ c.path; ends = map (moved_end o) c.ends }

-- the connections inside instance number i of body k
abbrev pub connections_by : Hierarchy → ℕ → ℕ → Part → List Connected
connections_by h k i x = map (moved_connection (name_of x) (leaves_before h k i)) (template_connections h x.kind)

-- where the interface j of an instance leads whose component is k, with so many leaves before it
abbrev pub target_by : Hierarchy → ℕ → ℕ → Name → Option ℕ
target_by h before k j =
    if is_composite h k then option_map (λ n. before + n) (option_and_then (λ t. t) (export_target h k j)) else Some before

-- an end that leads to this, with so many leaves before each instance
abbrev pub end_by : Hierarchy → List ℕ → End → Lead → Option Joined
end_by h before e l = option_map (λ n. record { end = e; leaf = n; member = l.port.member; once = l.port.once })
    (option_and_then (λ p. target_by h (slice_index_or before l.part.number 0) l.part.kind p.1) (port_in e.words))

abbrev pub led_end_by : Hierarchy → List ℕ → LedEnd → Option Joined
led_end_by h before x = option_and_then (end_by h before x.end) x.lead

abbrev pub led_wire_by : Hierarchy → List ℕ → LedWire → Connected
led_wire_by h before x = record { path = []; wire = x.wire; ends = filter_map (led_end_by h before) x.ends }
