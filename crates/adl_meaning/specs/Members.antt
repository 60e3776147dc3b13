-- What a component declares: interfaces, attributes and locks together, where a name stands for the first that has it;
-- and its compositions and configurations.
use Rattle.std.specs.Prelude.{List, [], ◌∷◌, Option, Some, None, option_map}
use Rattle.adl_meaning.specs.Below.{Attribute, Component, Composition, Configuration, Id, Interface, Member, bytes_eq, filter_map, find, flat_map, option_and_then, slice_get}
use Rattle.adl_ast.specs.declared.component.Lock.{Lock}
use Rattle.adl_ast.specs.declared.component.Member.TheVariants as members
use Rattle.adl_meaning.specs.Items.{Name}

-- ---- names

pub data Declared : Type 0 where
  an_interface : Interface → Declared
  an_attribute : Attribute → Declared
  a_lock : Lock → Declared

-- what a member declares, with its name
abbrev pub declared_by : Member → List (Id × Declared)
declared_by (members.Control p) = []
declared_by (members.Hardware p) = []
declared_by (members.Include i) = []
declared_by (members.Interface i) = (i.id, an_interface i) ∷ []
declared_by (members.Attribute a) = (a.id, an_attribute a) ∷ []
declared_by (members.Lock l) = (l.id, a_lock l) ∷ []
declared_by (members.Composition k) = []
declared_by (members.Configuration f) = []

abbrev pub declared_in : Component → List (Id × Declared)
declared_in c = flat_map declared_by c.members

-- what the name stands for in a component: the first that has it
abbrev pub declared_as : Component → Name → Option Declared
declared_as c n = option_map (λ d. d.1) (find (λ d. bytes_eq n d.0.name) (declared_in c))

abbrev pub as_interface : Declared → Option Interface
as_interface (an_interface i) = Some i
as_interface (an_attribute a) = None
as_interface (a_lock l) = None

abbrev pub as_attribute : Declared → Option Attribute
as_attribute (an_interface i) = None
as_attribute (an_attribute a) = Some a
as_attribute (a_lock l) = None

-- the interface that the name stands for
abbrev pub interface_of : Component → Name → Option Interface
interface_of c n = option_and_then as_interface (declared_as c n)

-- the attribute that the name stands for
abbrev pub attribute_of : Component → Name → Option Attribute
attribute_of c n = option_and_then as_attribute (declared_as c n)

-- ---- compositions and configurations

abbrev pub as_composition : Member → Option Composition
as_composition (members.Composition k) = Some k
as_composition (members.Control p) = None
as_composition (members.Hardware p) = None
as_composition (members.Include i) = None
as_composition (members.Interface i) = None
as_composition (members.Attribute a) = None
as_composition (members.Lock l) = None
as_composition (members.Configuration f) = None

abbrev pub as_configuration : Member → Option Configuration
as_configuration (members.Configuration f) = Some f
as_configuration (members.Control p) = None
as_configuration (members.Hardware p) = None
as_configuration (members.Include i) = None
as_configuration (members.Interface i) = None
as_configuration (members.Attribute a) = None
as_configuration (members.Lock l) = None
as_configuration (members.Composition k) = None

abbrev pub compositions : Component → List Composition
compositions c = filter_map as_composition c.members

abbrev pub configurations : Component → List Configuration
configurations c = filter_map as_configuration c.members

-- the composition of a composite: the first; a component without one is a leaf
abbrev pub composition_of : Component → Option Composition
composition_of c = slice_get (compositions c) 0
