-- The ends of all connections, each with the number of its connection, its last word, and the interface that it joins.
use Rattle.std.specs.Prelude.{ℕ, ◌==◌, Bool, true, false, ◌&&◌, List, Option, option_map}
use Rattle.adl_meaning.specs.Below.{End, Interface, InterfaceKind, enumerate_from, filter_map, flat_map, option_and_then, option_map_or}
use Rattle.adl_ast.specs.declared.component.InterfaceKind.TheVariants as kinds
use Rattle.adl_meaning.specs.declared.flat.FlatEnd.{FlatEnd}
use Rattle.adl_meaning.specs.Domains.{is_hardware}
use Rattle.adl_meaning.specs.Export.{last_name}
use Rattle.adl_meaning.specs.Flat.{flat_end}
use Rattle.adl_meaning.specs.Hierarchy.{Hierarchy, Part, body}
use Rattle.adl_meaning.specs.Items.{Name}
use Rattle.adl_meaning.specs.Joins.{Reached, Strung, joined_by, connections}
use Rattle.adl_meaning.specs.Members.{interface_of}

pub record JoinedEnd : Type 0 where
  pub connection : ℕ
  pub word : Name  -- the last word, as it is written
  pub end : FlatEnd
  pub once : Bool  -- whether one end alone may join the interface

-- an interface that is used or consumed, or emitted by a device
abbrev pub joins_once : Bool → InterfaceKind → Bool
joins_once device kinds.Uses = true
joins_once device kinds.Consumes = true
joins_once device kinds.Emits = device
joins_once device kinds.Provides = false
joins_once device kinds.Dataport = false

abbrev pub interface_at : Hierarchy → Part → Name → Option Interface
interface_at h x n = option_and_then (λ c. interface_of c n) (body h x.kind).component

abbrev pub is_once : Hierarchy → Reached → Bool
is_once h r = option_map_or (λ i. joins_once (is_hardware h r.part) i.kind) (interface_at h r.part r.interface) false

abbrev pub joined_end : Hierarchy → ℕ × Strung → End → Reached → JoinedEnd
joined_end h k e r = record { connection = k.0; word = last_name e.words; end = flat_end h k.1.path e r; once = is_once h r }

abbrev pub joined_ends_of : Hierarchy → ℕ × Strung → List JoinedEnd
joined_ends_of h k = filter_map (λ e. option_map (joined_end h k e) (joined_by h k.1.inside e)) k.1.wire.1.ends

abbrev pub joined_ends : Hierarchy → List JoinedEnd
joined_ends h = flat_map (joined_ends_of h) (enumerate_from 0 (connections h))

-- whether the end joins this interface, by the number of the leaf and the place of the member
abbrev pub is_at : ℕ → ℕ → JoinedEnd → Bool
is_at leaf member e = e.end.leaf == leaf && e.end.member == member
