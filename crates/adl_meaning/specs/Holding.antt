-- What a composition holds: instances, groups and connections together, where a name stands for the first that has it.
-- They count in the order of the text, a group before its instances. An instance is held whether its type is known or not.
-- A group stands for its own instances by name, of which again the first counts.
use Rattle.std.specs.Prelude.{List, [], ◌∷◌, map, Option, Some, None, option_map}
use Rattle.adl_meaning.specs.Below.{Composition, Connection, Export, Id, Instance, Line, bytes_eq, filter_map, find, flat_map}
use Rattle.adl_ast.specs.declared.composition.Group.{Group}
use Rattle.adl_ast.specs.declared.composition.Line.TheVariants as lines
use Rattle.adl_meaning.specs.Items.{Name}

-- what the name stands for behind the name of a group: the first instance of that group that has it
abbrev pub member_of : Group → Name → Option Instance
member_of g n = find (λ i. bytes_eq n i.id.name) g.instances

pub data Held : Type 0 where
  an_instance : Instance → Held
  a_group : (Name → Option Instance) → Held
  a_connection : Held

abbrev pub as_held : Instance → Id × Held
as_held i = (i.id, an_instance i)

-- what a line puts into a composition, with its names
abbrev pub held_by : Line → List (Id × Held)
held_by (lines.Instance i) = as_held i ∷ []
held_by (lines.Group g) = (g.id, a_group (member_of g)) ∷ map as_held g.instances
held_by (lines.Connection k) = (k.id, a_connection) ∷ []
held_by (lines.Export e) = []

abbrev pub held_in : Composition → List (Id × Held)
held_in k = flat_map held_by k.lines

-- what the name stands for in a composition: the first that has it
abbrev pub held_as : Composition → Name → Option Held
held_as k n = option_map (λ h. h.1) (find (λ h. bytes_eq n h.0.name) (held_in k))

-- ---- by kind

abbrev pub instances_by : Line → List Instance
instances_by (lines.Instance i) = i ∷ []
instances_by (lines.Group g) = g.instances
instances_by (lines.Connection k) = []
instances_by (lines.Export e) = []

-- the instances of a composition, in groups or not
abbrev pub instances_in : Composition → List Instance
instances_in k = flat_map instances_by k.lines

abbrev pub as_connection : Line → Option Connection
as_connection (lines.Instance i) = None
as_connection (lines.Group g) = None
as_connection (lines.Connection k) = Some k
as_connection (lines.Export e) = None

abbrev pub connections_in : Composition → List Connection
connections_in k = filter_map as_connection k.lines

abbrev pub as_export : Line → Option Export
as_export (lines.Instance i) = None
as_export (lines.Group g) = None
as_export (lines.Connection k) = None
as_export (lines.Export e) = Some e

abbrev pub exports_in : Composition → List Export
exports_in k = filter_map as_export k.lines
