-- What is known of a component: what its names stand for.
use Rattle.std.specs.Prelude.{Bool, false, List, Option, Some, None, option_map}
use Rattle.adl_meaning.specs.Below.{Attribute, Component, Composition, Export, Interface, Source, bytes_eq, list_any}
use Rattle.adl_meaning.specs.Holding.{Held, held_as, exports_in}
use Rattle.adl_meaning.specs.Items.{Name, component_of}
use Rattle.adl_meaning.specs.Members.{interface_of, attribute_of, composition_of}

pub record Known : Type 0 where
  pub interface : Name → Option Interface  -- the interface that a name stands for
  pub attribute : Name → Option Attribute  -- the attribute that a name stands for
  pub holds : Option (Name → Option Held)  -- what its composition holds by name; a leaf has none
  pub exports : Name → Bool  -- whether an export of its composition has the name as target

-- whether one of the exports has the name as target
abbrev pub is_target : List Export → Name → Bool
is_target xs n = list_any (λ x. bytes_eq n x.target.name) xs

abbrev pub is_exported : Option Composition → Name → Bool
is_exported None n = false
is_exported (Some k) n = is_target (exports_in k) n

abbrev pub known_of : Component → Known
known_of c = record {
  interface = interface_of c;
  attribute = attribute_of c;
  holds = option_map held_as (composition_of c);
  exports = is_exported (composition_of c);
}

-- the components of a source by name
abbrev pub known_in : Source → Name → Option Known
known_in s n = option_map known_of (component_of s n)
