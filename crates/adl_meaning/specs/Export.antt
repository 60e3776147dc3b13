-- Export stands at the dotted name of
--
--   an export in the assembly;
--   an export whose inner interface and target differ in kind, type word or size, where `Buf` is `Buf(4096)` (differs);
--   an export with the target or the inner interface of an earlier export of the composition (is_misfit: targets, inners);
--   an end or an export of a composite's interface that no export of its composition has as target (is_unled).
--
-- Its name is the last word of the dotted name. Where a name or a type is unknown there is no inner interface to look at.
use Rattle.std.specs.Prelude.{ℕ, ◌-◌, length, ◌==◌, Bool, true, false, ◌||◌, ◌&&◌, not, if◌then◌else◌, List, [], ◌∷◌, ◌++◌, Option, Some, None, is_some, option_map, unwrap_or}
use Rattle.adl_meaning.specs.Below.{Composition, Connection, End, Export, Fault, Id, Instance, Interface, InterfaceKind, Item, Place, Source, bytes_eq, flat_map, is_none, option_and_then, option_map_or, slice_get}
use Rattle.cam_base.specs.declared.code.Code.TheVariants as code
use Rattle.adl_ast.specs.declared.component.InterfaceKind.TheVariants as kinds
use Rattle.adl_ast.specs.declared.file.Item.TheVariants as items
use Rattle.adl_meaning.specs.Faults.{where_true}
use Rattle.adl_meaning.specs.Holding.{Held, an_instance, a_group, a_connection, held_as, connections_in, exports_in}
use Rattle.adl_meaning.specs.Known.{Known, known_of, known_in}
use Rattle.adl_meaning.specs.Items.{Name, items_of}
use Rattle.adl_meaning.specs.Members.{compositions}

-- ---- what a dotted name names

-- an instance, and the name of an interface
abbrev pub Port : Type 0
Port = Instance × Name

abbrev pub instance_held : Option Held → Option Instance
instance_held None = None
instance_held (Some (an_instance i)) = Some i
instance_held (Some (a_group members)) = None
instance_held (Some a_connection) = None

abbrev pub member_held : Option Held → Name → Option Instance
member_held None n = None
member_held (Some (an_instance i)) n = None
member_held (Some (a_group members)) n = members n
member_held (Some a_connection) n = None

-- the instance of a dotted name, a.j or a.b.j, with the name of an interface behind it
abbrev pub port_of : (Name → Option Held) → List Id → Option Port
port_of held [] = None
port_of held (a ∷ []) = None
port_of held (a ∷ j ∷ []) = option_map (λ i. (i, j.name)) (instance_held (held a.name))
port_of held (a ∷ b ∷ j ∷ []) = option_map (λ i. (i, j.name)) (member_held (held a.name) b.name)
port_of held (a ∷ b ∷ j ∷ x ∷ more) = None

-- the interface that the port's component declares
abbrev pub interface_at : (Name → Option Known) → Port → Option Interface
interface_at types p = option_and_then (λ c. c.interface p.1) (types p.0.component.name)

-- ---- interfaces that differ

abbrev pub same_kind : InterfaceKind → InterfaceKind → Bool
same_kind kinds.Uses kinds.Uses = true
same_kind kinds.Provides kinds.Provides = true
same_kind kinds.Emits kinds.Emits = true
same_kind kinds.Consumes kinds.Consumes = true
same_kind kinds.Dataport kinds.Dataport = true
same_kind _ _ = false

-- the bytes of a data port whose size doesn't stand there
abbrev pub default_size : ℕ
default_size = 4096

-- one kind, one type word, one size; `maybe` isn't compared
abbrev pub same_interface : Interface → Interface → Bool
same_interface i j = same_kind i.kind j.kind && (bytes_eq i.word.name j.word.name && unwrap_or i.size default_size == unwrap_or
    j.size default_size)

abbrev pub differs : Option Interface → Option Interface → Bool
differs (Some i) (Some j) = not (same_interface i j)
differs (Some i) None = false
differs None j = false

-- ---- ports that lead on

-- the interface is declared by a composite, and no export has it as target
abbrev pub ends_in : Known → Name → Bool
ends_in c n = is_some (c.interface n) && (is_some c.holds && not (c.exports n))

abbrev pub is_unled : (Name → Option Known) → Option Port → Bool
is_unled types None = false
is_unled types (Some p) = option_map_or (λ c. ends_in c p.1) (types p.0.component.name) false

-- ---- earlier exports

-- the port, where its component declares the interface: the inner interface of an export
abbrev pub inner_of : (Name → Option Known) → Option Port → Option Port
inner_of types None = None
inner_of types (Some p) = if is_some (interface_at types p) then Some p else None

-- one instance, by its place, and one name of an interface
abbrev pub same_port : Port → Port → Bool
same_port p q = p.0.id.place.first == q.0.id.place.first && bytes_eq p.1 q.1

abbrev pub is_port : Option Port → Port → Bool
is_port None p = false
is_port (Some q) p = same_port p q

-- ---- the faults; the owner is the component that has the composition, or None in an assembly

-- the last word of a dotted name
abbrev pub last_name : List Id → Name
last_name words = option_map_or (λ w. w.name) (slice_get words (length words - 1)) []

abbrev pub export_fault : List Id → Place → Fault
export_fault words p = record { code = code.Export; place = p; name = last_name words }

-- whether an export of this port is at fault, where targets and inners say what earlier exports have
abbrev pub is_misfit_at : (Name → Option Known) → Option Known → Option Port → (Name → Bool) → (Port → Bool) → Export → Bool
is_misfit_at types owner port targets inners x =
    is_none owner
    || (differs (option_and_then (interface_at types) port) (option_and_then (λ c. c.interface x.target.name) owner)
    || (targets x.target.name
    || (option_map_or inners (inner_of types port) false
    || is_unled types port)))

abbrev pub is_misfit : (Name → Option Known) → Option Known → (Name → Option Held) → (Name → Bool) → (Port → Bool) → Export → Bool
is_misfit types owner held targets inners x = is_misfit_at types owner (port_of held x.words) targets inners x

-- the exports at fault, where targets and inners say what the exports in front of them have
abbrev pub misfits_after : (Name → Option Known) → Option Known → (Name → Option Held) → (Name → Bool) → (Port → Bool)
    → List Export → List Fault
misfits_after types owner held targets inners [] = []
misfits_after types owner held targets inners (x ∷ xs) =
    where_true (is_misfit types owner held targets inners x) (export_fault x.words x.place)
    ++ misfits_after types owner held (λ n. targets n || bytes_eq n x.target.name)
    (λ p. inners p || is_port (inner_of types (port_of held x.words)) p) xs

abbrev pub unled_end : (Name → Option Known) → (Name → Option Held) → End → List Fault
unled_end types held e = where_true (is_unled types (port_of held e.words)) (export_fault e.words e.place)

abbrev pub unled_ends : (Name → Option Known) → (Name → Option Held) → Connection → List Fault
unled_ends types held k = flat_map (unled_end types held) k.ends

abbrev pub misfits_in_composition : (Name → Option Known) → Option Known → Composition → List Fault
misfits_in_composition types owner k = misfits_after types owner (held_as k) (λ n. false) (λ p. false) (exports_in k)
    ++ flat_map (unled_ends types (held_as k)) (connections_in k)

abbrev pub misfits_in_item : (Name → Option Known) → Item → List Fault
misfits_in_item types (items.Import i) = []
misfits_in_item types (items.Procedure p) = []
misfits_in_item types (items.Component c) = flat_map (misfits_in_composition types (Some (known_of c))) (compositions c)
misfits_in_item types (items.Assembly a) = misfits_in_composition types None a.composition

abbrev pub misfit_exports : Source → List Fault
misfit_exports s = flat_map (λ x. misfits_in_item (known_in s) x.1) (items_of s)
