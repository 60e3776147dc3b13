-- Unknown stands at a word that is one of these:
--
--   the type of an instance, where no component has that name (unknown_type);
--   the procedure of `uses` or `provides`, where no procedure has that name (unknown_procedure);
--   a connector that isn't one of the six (unknown_connector);
--   in the dotted name of an end or an export (unknown_in_dotted): the first word, where the composition doesn't hold it,
--     where it is a connection, where it is an instance and three words stand, and where it is a group and two words stand;
--     behind a group, a word that isn't an instance of it; the interface, where the instance's component declares none;
--   the target of an export, where the component declares no interface of that name (unknown_target);
--   in the dotted name of a setting (unknown_in_setting): the first word, and each word inside a composite, where the
--     composition doesn't hold it; behind a group, a word that isn't an instance of it; each word behind a leaf or a
--     connection, but for the last; a group as last but one word;
--   the attribute that a setting refers to, where the component declares none; in the assembly, always (unknown_attribute).
--
-- Where the type of an instance is unknown, the words behind that instance aren't. A name that stands twice means the first.
use Rattle.std.specs.Prelude.{Bool, true, false, ◌||◌, not, List, [], ◌∷◌, ◌++◌, Option, Some, None, is_some}
use Rattle.adl_meaning.specs.Below.{Assembly, Composition, Configuration, Connection, Fault, Id, Instance, Interface, InterfaceKind, Item, Line, Member, Setter, Setting, Source, flat_map, option_and_then}
use Rattle.cam_base.specs.declared.code.Code.TheVariants as code
use Rattle.adl_ast.specs.declared.component.InterfaceKind.TheVariants as kinds
use Rattle.adl_ast.specs.declared.component.Member.TheVariants as members
use Rattle.adl_ast.specs.declared.composition.Line.TheVariants as lines
use Rattle.adl_ast.specs.declared.configuration.Setter.TheVariants as setters
use Rattle.adl_ast.specs.declared.file.Item.TheVariants as items
use Rattle.adl_meaning.specs.Connectors.{connector_of}
use Rattle.adl_meaning.specs.Faults.{at_word, where_false}
use Rattle.adl_meaning.specs.Holding.{Held, an_instance, a_group, a_connection, held_as}
use Rattle.adl_meaning.specs.Known.{Known, known_of, known_in}
use Rattle.adl_meaning.specs.Items.{Name, items_of, procedure_named}

abbrev pub unknown : Id → Fault
unknown w = at_word code.Unknown w

-- the word, where the test that it is known fails
abbrev pub unless_known : Bool → Id → List Fault
unless_known known w = where_false known (unknown w)

-- ---- types, procedures, connectors; types tells what is known of the components by name, procedures which there are

abbrev pub unknown_type : (Name → Option Known) → Instance → List Fault
unknown_type types i = unless_known (is_some (types i.component.name)) i.component

-- `uses` and `provides` name a procedure
abbrev pub names_procedure : InterfaceKind → Bool
names_procedure kinds.Uses = true
names_procedure kinds.Provides = true
names_procedure kinds.Emits = false
names_procedure kinds.Consumes = false
names_procedure kinds.Dataport = false

abbrev pub unknown_procedure : (Name → Bool) → Interface → List Fault
unknown_procedure procedures i = unless_known (not (names_procedure i.kind) || procedures i.word.name) i.word

abbrev pub unknown_connector : Connection → List Fault
unknown_connector k = unless_known (is_some (connector_of k.connector.name)) k.connector

-- ---- the dotted names of ends and exports

-- the interface of an instance, by what is known of its component
abbrev pub unknown_interface : Option Known → Id → List Fault
unknown_interface None j = []
unknown_interface (Some c) j = unless_known (is_some (c.interface j.name)) j

-- a.j, by what the composition holds as a
abbrev pub unknown_in_two : (Name → Option Known) → Option Held → Id → Id → List Fault
unknown_in_two types None a j = unknown a ∷ []
unknown_in_two types (Some (an_instance i)) a j = unknown_interface (types i.component.name) j
unknown_in_two types (Some (a_group members)) a j = unknown a ∷ unless_known (is_some (members j.name)) j
unknown_in_two types (Some a_connection) a j = unknown a ∷ []

-- b.j behind a group, by the instance of the group that b is
abbrev pub unknown_in_group : (Name → Option Known) → Option Instance → Id → Id → List Fault
unknown_in_group types None b j = unknown b ∷ []
unknown_in_group types (Some i) b j = unknown_interface (types i.component.name) j

-- a.b.j, by what the composition holds as a
abbrev pub unknown_in_three : (Name → Option Known) → Option Held → Id → Id → Id → List Fault
unknown_in_three types None a b j = unknown a ∷ []
unknown_in_three types (Some (an_instance i)) a b j = unknown a ∷ []
unknown_in_three types (Some (a_group members)) a b j = unknown_in_group types (members b.name) b j
unknown_in_three types (Some a_connection) a b j = unknown a ∷ []

-- a dotted name in a composition that holds these
abbrev pub unknown_in_dotted : (Name → Option Known) → (Name → Option Held) → List Id → List Fault
unknown_in_dotted types held [] = []
unknown_in_dotted types held (a ∷ []) = []
unknown_in_dotted types held (a ∷ j ∷ []) = unknown_in_two types (held a.name) a j
unknown_in_dotted types held (a ∷ b ∷ j ∷ []) = unknown_in_three types (held a.name) a b j
unknown_in_dotted types held (a ∷ b ∷ j ∷ x ∷ more) = []

-- ---- the words of settings

-- where the next word is looked up
pub data Scope : Type 0 where
  within : (Name → Option Held) → Scope  -- among what a composition holds
  inside : (Name → Option Instance) → Scope  -- among the instances of a group
  behind : Scope  -- nowhere: a leaf or a connection holds nothing
  untold : Scope  -- nowhere: what the word in front stands for isn't known

abbrev pub scope_of_held : Option (Name → Option Held) → Scope
scope_of_held None = behind
scope_of_held (Some held) = within held

-- behind an instance, by what is known of its component
abbrev pub scope_of_known : Option Known → Scope
scope_of_known None = untold
scope_of_known (Some c) = scope_of_held c.holds

-- behind a word of a group
abbrev pub scope_in_group : (Name → Option Known) → Option Instance → Scope
scope_in_group types None = untold
scope_in_group types (Some i) = scope_of_known (types i.component.name)

-- behind a word of a composition
abbrev pub scope_in_composition : (Name → Option Known) → Option Held → Scope
scope_in_composition types None = untold
scope_in_composition types (Some (an_instance i)) = scope_of_known (types i.component.name)
scope_in_composition types (Some (a_group members)) = inside members
scope_in_composition types (Some a_connection) = behind

-- behind a word that is looked up in this scope
abbrev pub scope_behind : (Name → Option Known) → Scope → Name → Scope
scope_behind types (within held) n = scope_in_composition types (held n)
scope_behind types (inside members) n = scope_in_group types (members n)
scope_behind types behind n = behind
scope_behind types untold n = untold

-- the last word, which may be any but behind a group
abbrev pub unknown_last : Scope → Id → List Fault
unknown_last (within held) w = []
unknown_last (inside members) w = unless_known (is_some (members w.name)) w
unknown_last behind w = []
unknown_last untold w = []

-- a word that isn't the last
abbrev pub unknown_inner : Scope → Id → List Fault
unknown_inner (within held) w = unless_known (is_some (held w.name)) w
unknown_inner (inside members) w = unless_known (is_some (members w.name)) w
unknown_inner behind w = unknown w ∷ []
unknown_inner untold w = []

-- the last word but one, by the scope behind it
abbrev pub unknown_group : Scope → Id → List Fault
unknown_group (within held) w = []
unknown_group (inside members) w = unknown w ∷ []
unknown_group behind w = []
unknown_group untold w = []

-- a word that is looked up in the one scope, by the scope behind it and the words that follow
abbrev pub unknown_word : Scope → Scope → Id → List Id → List Fault
unknown_word scope after w [] = unknown_last scope w
unknown_word scope after w (v ∷ []) = unknown_inner scope w ++ unknown_group after w
unknown_word scope after w (v ∷ u ∷ more) = unknown_inner scope w

-- the words from here on, of which the first is looked up in the scope
abbrev pub unknown_in_setting : (Name → Option Known) → Scope → List Id → List Fault
unknown_in_setting types scope [] = []
unknown_in_setting types scope (w ∷ more) = unknown_word scope (scope_behind types scope w.name) w more
    ++ unknown_in_setting types (scope_behind types scope w.name) more

-- the attribute that a setting refers to, by what is known of the owner
abbrev pub unknown_attribute : Option Known → Setter → List Fault
unknown_attribute owner (setters.Literal v) = []
unknown_attribute owner (setters.Reference y) = unless_known (is_some (option_and_then (λ c. c.attribute y.name) owner)) y

-- ---- lines and members; the owner is the component that has them, or None in an assembly

abbrev pub unknown_target : Option Known → Id → List Fault
unknown_target owner t = unless_known (is_some (option_and_then (λ c. c.interface t.name) owner)) t

abbrev pub unknown_in_line : (Name → Option Known) → Option Known → (Name → Option Held) → Line → List Fault
unknown_in_line types owner held (lines.Instance i) = unknown_type types i
unknown_in_line types owner held (lines.Group g) = flat_map (unknown_type types) g.instances
unknown_in_line types owner held (lines.Connection x) = unknown_connector x
    ++ flat_map (λ e. unknown_in_dotted types held e.words) x.ends
unknown_in_line types owner held (lines.Export x) = unknown_in_dotted types held x.words ++ unknown_target owner x.target

abbrev pub unknown_in_composition : (Name → Option Known) → Option Known → Composition → List Fault
unknown_in_composition types owner k = flat_map (unknown_in_line types owner (held_as k)) k.lines

abbrev pub unknown_in_one_setting : (Name → Option Known) → Option Known → Scope → Setting → List Fault
unknown_in_one_setting types owner scope x = unknown_in_setting types scope x.words ++ unknown_attribute owner x.setter

abbrev pub unknown_in_configuration : (Name → Option Known) → Option Known → Scope → Configuration → List Fault
unknown_in_configuration types owner scope f = flat_map (unknown_in_one_setting types owner scope) f.settings

abbrev pub unknown_in_member : (Name → Option Known) → (Name → Bool) → Known → Member → List Fault
unknown_in_member types procedures owner (members.Control p) = []
unknown_in_member types procedures owner (members.Hardware p) = []
unknown_in_member types procedures owner (members.Include i) = []
unknown_in_member types procedures owner (members.Interface i) = unknown_procedure procedures i
unknown_in_member types procedures owner (members.Attribute a) = []
unknown_in_member types procedures owner (members.Lock l) = []
unknown_in_member types procedures owner (members.Composition k) = unknown_in_composition types (Some owner) k
unknown_in_member types procedures owner (members.Configuration f) = unknown_in_configuration types (Some owner)
    (scope_of_held owner.holds) f

abbrev pub unknown_if_configured : (Name → Option Known) → Scope → Option Configuration → List Fault
unknown_if_configured types scope None = []
unknown_if_configured types scope (Some f) = unknown_in_configuration types None scope f

abbrev pub unknown_in_assembly : (Name → Option Known) → Assembly → List Fault
unknown_in_assembly types a = unknown_in_composition types None a.composition ++ unknown_if_configured types
    (within (held_as a.composition)) a.configuration

abbrev pub unknown_in_item : (Name → Option Known) → (Name → Bool) → Item → List Fault
unknown_in_item types procedures (items.Import i) = []
unknown_in_item types procedures (items.Procedure p) = []
unknown_in_item types procedures (items.Component c) = flat_map (unknown_in_member types procedures (known_of c)) c.members
unknown_in_item types procedures (items.Assembly a) = unknown_in_assembly types a

-- ---- all of them

abbrev pub is_procedure : Source → Name → Bool
is_procedure s n = is_some (procedure_named s n)

abbrev pub unknown_names : Source → List Fault
unknown_names s = flat_map (λ x. unknown_in_item (known_in s) (is_procedure s) x.1) (items_of s)
