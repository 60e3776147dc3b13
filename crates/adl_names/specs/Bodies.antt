-- The items of a source, with what the names in them stand for.
use Rattle.adl_meaning.specs.Prelude.{Bor, Component, Item, Known, Name, Source, bytes_eq, component_of, enumerate_from, find, is_procedure, items_of, known_of, option_and_then, option_copied, option_map_or, slice_get}
use Rattle.adl_names.specs.Words.{found}
use Rattle.std.specs.Prelude.{Bool, List, None, Option, Some, false, map, option_map, ℕ, ◌≡◌}
use Rattle.adl_names.specs.Tables.{has_name}
use Rattle.adl_names.specs.declared.bodies.Body.{Body}
use Rattle.adl_ast.specs.declared.file.Item.TheVariants as items
use Rattle.adl_names.specs.declared.bodies.Body.TheVariants as body

abbrev pub item_of : Body → Item
item_of (body.Import i) = items.Import i.now
item_of (body.Procedure p) = items.Procedure p.now
item_of (body.Component c) = items.Component c
item_of (body.Assembly a k) = items.Assembly (record {
  place = a.now.place;
  id = a.now.id;
  composition = k;
  configuration = a.now.configuration;
})

abbrev pub item_component : Item → Option Component
item_component (items.Component c) = Some c
item_component _ = None

abbrev pub is_named : Name → Item → Bool
is_named n x = option_map_or (λ c. bytes_eq n c.id.name) (item_component x) false

-- the number of the first component of the name
abbrev pub item_number : List Item → Name → Option ℕ
item_number xs n = option_map (λ x. x.0) (find (λ x. is_named n x.1) (enumerate_from 0 xs))

-- the component of a number among items
abbrev pub component_at : List Item → Option ℕ → Option Component
component_at xs number = option_and_then (λ k. option_and_then item_component (slice_get xs k)) number

-- the tables tell what the names of a source stand for
pub record AreKnown (bodies : List Body) (numbers : List (Name × ℕ)) (procedures : List (Name × Unit {0}))
    (s : Source) : Type 0 where
  pub items_are : map item_of bodies ≡ map (λ x. x.1) (items_of s)
  pub components : (n : Name) → component_at (map (λ x. x.1) (items_of s)) (found numbers n) ≡ component_of s n
  pub are_procedures : (n : Name) → has_name procedures n ≡ is_procedure s n

-- what is known of the component that has a composition; an assembly is none
abbrev pub owner_of : Option (Bor Component) → Option Known
owner_of o = option_map known_of (option_copied o)
