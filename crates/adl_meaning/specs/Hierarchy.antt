-- A source as a hierarchy. Its bodies are its components by number, in the order of the source, and the assembly, the top,
-- has the number behind the last of them. A body has the instances of its composition, each with the number of its
-- component. Where a name stands for nothing, the instance is left out; where no fault of names stands, none is.
use Rattle.std.specs.Prelude.{ℕ, Bool, List, [], ◌∷◌, ◌++◌, map, length, slice_index_or, Option, Some, None, is_some, option_map}
use Rattle.adl_meaning.specs.Below.{Assembly, Component, Composition, Configuration, Connection, Export, Id, Instance, Line, Source, bytes_eq, filter_map, find, flat_map, option_map_or, slice_get}
use Rattle.adl_ast.specs.declared.composition.Line.TheVariants as lines
use Rattle.adl_meaning.specs.declared.connector.Connector.{Connector}
use Rattle.adl_meaning.specs.Connectors.{connector_of}
use Rattle.adl_meaning.specs.declared.item_at.ItemAt.{ItemAt}
use Rattle.adl_meaning.specs.Holding.{connections_in, exports_in}
use Rattle.adl_meaning.specs.Items.{Name, components, assemblies}
use Rattle.adl_meaning.specs.Members.{composition_of, configurations}
use Rattle.adl_meaning.specs.Recursive.{number_named}

-- ---- bodies

-- an instance of a composition
pub record Part : Type 0 where
  pub instance : Instance
  pub group : Option Name  -- the group that it stands in
  pub kind : ℕ  -- the number of its component

-- a component, or the assembly
pub record Body : Type 0 where
  pub item : Option ItemAt  -- where it stands
  pub component : Option Component  -- the assembly is none
  pub composition : Option Composition
  pub configuration : Option Configuration
  pub parts : List Part

pub record Hierarchy : Type 0 where
  pub bodies : List Body  -- of the components
  pub top : Body  -- of the assembly

abbrev pub part_of : (Name → Option ℕ) → Option Name → Instance → Option Part
part_of numbers g i = option_map (λ k. record { instance = i; group = g; kind = k }) (numbers i.component.name)

abbrev pub parts_by : (Name → Option ℕ) → Line → List Part
parts_by numbers (lines.Instance i) = filter_map (part_of numbers None) (i ∷ [])
parts_by numbers (lines.Group g) = filter_map (part_of numbers (Some g.id.name)) g.instances
parts_by numbers (lines.Connection k) = []
parts_by numbers (lines.Export x) = []

-- the instances of a composition, in groups or not
abbrev pub parts_in : (Name → Option ℕ) → Option Composition → List Part
parts_in numbers None = []
parts_in numbers (Some k) = flat_map (parts_by numbers) k.lines

abbrev pub body_of : (Name → Option ℕ) → ItemAt × Component → Body
body_of numbers c = record {
  item = Some c.0;
  component = Some c.1;
  composition = composition_of c.1;
  configuration = slice_get (configurations c.1) 0;
  parts = parts_in numbers (composition_of c.1);
}

abbrev pub top_of : (Name → Option ℕ) → Option (ItemAt × Assembly) → Body
top_of numbers None = record { item = None; component = None; composition = None; configuration = None; parts = [] }
top_of numbers (Some a) = record {
  item = Some a.0;
  component = None;
  composition = Some a.1.composition;
  configuration = a.1.configuration;
  parts = parts_in numbers (Some a.1.composition);
}

-- the number that a component's name stands for
abbrev pub kind_named : Source → Name → Option ℕ
kind_named s = number_named (map (λ c. c.1) (components s))

abbrev pub hierarchy_of : Source → Hierarchy
hierarchy_of s = record {
  bodies = map (body_of (kind_named s)) (components s);
  top = top_of (kind_named s) (slice_get (assemblies s) 0);
}

-- ---- bodies by number

-- the number of the assembly
abbrev pub top_number : Hierarchy → ℕ
top_number h = length h.bodies

abbrev pub body : Hierarchy → ℕ → Body
body h k = slice_index_or h.bodies k h.top

-- whether the body has a composition; a component without one is a leaf
abbrev pub is_composite : Hierarchy → ℕ → Bool
is_composite h k = is_some (body h k).composition

-- the bodies by number, with the kinds of their instances
abbrev pub graph : Hierarchy → List (List ℕ)
graph h = map (λ b. map (λ x. x.kind) b.parts) (h.bodies ++ h.top ∷ [])

-- ---- what stands in a body

-- the first instance of the name
abbrev pub part_named : List Part → Name → Option Part
part_named xs n = find (λ x. bytes_eq n x.instance.id.name) xs

-- the first export under the name
abbrev pub export_named : List Export → Name → Option Export
export_named xs n = find (λ x. bytes_eq n x.target.name) xs

abbrev pub exports_of : Body → List Export
exports_of b = option_map_or exports_in b.composition []

-- a connection of one of the six connectors
abbrev pub Wire : Type 0
Wire = Connector × Connection

abbrev pub wire_of : Connection → Option Wire
wire_of k = option_map (λ c. (c, k)) (connector_of k.connector.name)

abbrev pub wires_of : Body → List Wire
wires_of b = filter_map wire_of (option_map_or connections_in b.composition [])

-- the instance and the interface of a dotted name, without the name of a group: its last two words
abbrev pub port_in : List Id → Option (Name × Name)
port_in [] = None
port_in (a ∷ []) = None
port_in (a ∷ j ∷ []) = Some (a.name, j.name)
port_in (g ∷ a ∷ j ∷ more) = port_in (a ∷ j ∷ more)
