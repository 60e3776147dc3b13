-- The ends of a flat system at the interfaces that they join, and the values of the settings that have a meaning there:
--
--   i_access               at a dataport of software
--   i_attributes           at a `from` end of a call or an event
--   i_size, i_paddr        at a dataport of a device
--   i_irq_number           at an `emits` of a device
--   size of a connection   at each end of shared memory
--
-- Here i is the interface of the leaf, and its settings are those of the leaf's path.
use Rattle.adl_meaning.specs.Prelude.{Component, From, Given, Hierarchy, Interface, Item, Member, Name, Role, Source, To, filter_map, option_and_then, same_kind, value_at}
use Rattle.adl_meaning.specs.declared.connector.Connector.{Connector}
use Rattle.adl_meaning.specs.declared.connector.Connector.TheVariants.{Notification, Rpc, SharedMemory}
use Rattle.adl_meaning.specs.declared.item_at.ItemAt.{ItemAt}
use Rattle.std.specs.Prelude.{Bool, List, None, Option, Some, [], codes, false, if◌then◌else◌, map, not, option_map, slice_get, true, ℕ, ◌&&◌, ◌++◌, ◌+◌, ◌∷◌}
use Rattle.adl_settings.specs.Words.{Flat, FlatConnection, FlatEnd, Leaf}
use Rattle.adl_settings.specs.Meant.{where_set}
use Rattle.adl_ast.specs.declared.component.InterfaceKind.TheVariants as interfaces
use Rattle.adl_ast.specs.declared.component.Member.TheVariants as members
use Rattle.adl_ast.specs.declared.file.Item.TheVariants as items
pub use Rattle.adl_settings.specs.Joint.{Joint}
pub use Rattle.adl_settings.specs.declared.found.Found.{Found}

-- ---- interfaces by number

abbrev pub as_component : Item → Option Component
as_component (items.Component c) = Some c
as_component _ = None

-- the component that stands at the place
abbrev pub component_at : Source → ItemAt → Option Component
component_at s a = option_and_then (λ f. option_and_then (λ x. as_component x.item) (slice_get f.tree.items a.item))
    (slice_get s.files a.file)

abbrev pub as_interface : Member → Option Interface
as_interface (members.Interface i) = Some i
as_interface _ = None

-- the interface that is this member of the leaf's component
abbrev pub interface_at : Source → Leaf → ℕ → Option Interface
interface_at s leaf member = option_and_then (λ c. option_and_then as_interface (slice_get c.members member))
    (component_at s leaf.component)

-- ---- ends with their interfaces

abbrev pub is_from : Role → Bool
is_from From = true
is_from To = false

-- how many `from` ends stand before the next end
abbrev pub behind : ℕ → Role → ℕ
behind n From = n + 1
behind n To = n

-- the ends with their positions, where n `from` ends stand before them
abbrev pub positioned_after : ℕ → List FlatEnd → List (ℕ × FlatEnd)
positioned_after n [] = []
positioned_after n (e ∷ es) = (n + 1, e) ∷ positioned_after (behind n e.role) es

abbrev pub positioned : List FlatEnd → List (ℕ × FlatEnd)
positioned es = positioned_after 0 es

abbrev pub joint_at : Source → FlatConnection → ℕ × FlatEnd → Leaf → Option Joint
joint_at s k x leaf = option_map (λ i. record { connection = k; position = x.0; end = x.1; leaf = leaf; interface = i })
    (interface_at s leaf x.1.member)

abbrev pub joint_of : Source → Flat → FlatConnection → ℕ × FlatEnd → Option Joint
joint_of s flat k x = option_and_then (joint_at s k x) (slice_get flat.leaves x.1.leaf)

-- ---- which settings have a meaning

abbrev pub is_dataport : Joint → Bool
is_dataport j = same_kind j.interface.kind interfaces.Dataport

abbrev pub has_access : Joint → Bool
has_access j = is_dataport j && not j.leaf.hardware

abbrev pub is_device_memory : Joint → Bool
is_device_memory j = is_dataport j && j.leaf.hardware

abbrev pub is_device_event : Joint → Bool
is_device_event j = same_kind j.interface.kind interfaces.Emits && j.leaf.hardware

-- whether ends of this connector and role have badges
abbrev pub are_badged : Connector → Role → Bool
are_badged Rpc From = true
are_badged Notification From = true
are_badged _ _ = false

abbrev pub has_badge : Joint → Bool
has_badge j = are_badged j.connection.connector j.end.role

abbrev pub is_shared : Connector → Bool
is_shared SharedMemory = true
is_shared _ = false

-- ---- the values of the settings

-- the value of the interface's setting
abbrev pub value_of : Hierarchy → Joint → Name → Option Given
value_of h j setting = value_at h j.leaf.path (j.interface.id.name ++ setting)

abbrev pub size_of : Hierarchy → Joint → Option Given
size_of h j = if is_shared j.connection.connector then value_at h j.connection.path (codes "size") else where_set
    (is_device_memory j) (value_of h j (codes "_size"))

abbrev pub found_at : Hierarchy → Joint → Found
found_at h j = record {
  joint = j;
  access = where_set (has_access j) (value_of h j (codes "_access"));
  badge = where_set (has_badge j) (value_of h j (codes "_attributes"));
  size = size_of h j;
  paddr = where_set (is_device_memory j) (value_of h j (codes "_paddr"));
  irq = where_set (is_device_event j) (value_of h j (codes "_irq_number"));
}

abbrev pub found_of : Hierarchy → Source → Flat → FlatConnection → ℕ × FlatEnd → Option Found
found_of h s flat k x = option_map (found_at h) (joint_of s flat k x)

-- those of a connection
abbrev pub found_on : Hierarchy → Source → Flat → FlatConnection → List Found
found_on h s flat k = filter_map (found_of h s flat k) (positioned k.ends)

-- those of each connection
abbrev pub founds_in : Hierarchy → Source → Flat → List (List Found)
founds_in h s flat = map (found_on h s flat) flat.connections
