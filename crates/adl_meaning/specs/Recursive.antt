-- Recursive stands at the type of an instance in a composition of a component, where that type is the component or holds
-- it, directly or through others. Components are told by number, so that one whose name an earlier one has holds others
-- and is held by none. Instances count in each composition of a component, in groups or not.
use Rattle.std.specs.Prelude.{ℕ, List, [], map, Option, Some, None, option_map}
use Rattle.adl_meaning.specs.Below.{Component, Fault, Instance, Source, bytes_eq, enumerate_from, filter_map, find, flat_map}
use Rattle.cam_base.specs.declared.code.Code.TheVariants as code
use Rattle.adl_meaning.specs.Faults.{at_word, where_true}
use Rattle.adl_meaning.specs.Graph.{is_held}
use Rattle.adl_meaning.specs.Holding.{instances_in}
use Rattle.adl_meaning.specs.Items.{Name, components}
use Rattle.adl_meaning.specs.Members.{compositions}

-- the instances of a component
abbrev pub instances_of : Component → List Instance
instances_of c = flat_map instances_in (compositions c)

-- the number of the first component of the name, counted from this one
abbrev pub number_from : ℕ → List Component → Name → Option ℕ
number_from a cs n = option_map (λ x. x.0) (find (λ x. bytes_eq n x.1.id.name) (enumerate_from a cs))

abbrev pub number_named : List Component → Name → Option ℕ
number_named cs n = number_from 0 cs n

-- the numbers of the components that the instances of a component name
abbrev pub types_of : (Name → Option ℕ) → Component → List ℕ
types_of numbers c = filter_map (λ i. numbers i.component.name) (instances_of c)

-- the components by number, with the types of their instances
abbrev pub graph_of : (Name → Option ℕ) → List Component → List (List ℕ)
graph_of numbers cs = map (types_of numbers) cs

-- an instance in component a, by the number of its type
abbrev pub recursive_type : List (List ℕ) → ℕ → Instance → Option ℕ → List Fault
recursive_type g a i None = []
recursive_type g a i (Some t) = where_true (is_held g t a) (at_word code.Recursive i.component)

abbrev pub recursive_instance : (Name → Option ℕ) → List (List ℕ) → ℕ → Instance → List Fault
recursive_instance numbers g a i = recursive_type g a i (numbers i.component.name)

abbrev pub recursive_in : (Name → Option ℕ) → List (List ℕ) → ℕ → Component → List Fault
recursive_in numbers g a c = flat_map (recursive_instance numbers g a) (instances_of c)

abbrev pub recursive_among : (Name → Option ℕ) → List Component → List Fault
recursive_among numbers cs = flat_map (λ x. recursive_in numbers (graph_of numbers cs) x.0 x.1) (enumerate_from 0 cs)

abbrev pub recursive_types : Source → List Fault
recursive_types s = let cs = map (λ c. c.1) (components s) in recursive_among (number_named cs) cs
