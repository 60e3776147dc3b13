-- What stands in a source.
use Rattle.std.specs.Prelude.{◌≡◌, List, ◌∷◌, None, Option, Some}
use Rattle.adl_ast.specs.declared.file.Item.TheVariants as items
use Rattle.adl_meaning.specs.declared.item_at.ItemAt.{ItemAt}
use Rattle.adl_meaning.specs.Prelude.{Assembly, Component, Composition, IsIn, Item, Known, Source, compositions, items_of, known_of}

-- the source has this item
pub record HasItem (s : Source) (x : Item) : Type 0 where
  pub at : ItemAt
  pub stands : IsIn (at, x) (items_of s)

-- a composition of the source, and the component that has it; the assembly is none
pub data HasComposition (s : Source) : Option Known → Composition → Type 0 where
  of_component : (c : Component) (k : Composition) → HasItem s (items.Component c) → IsIn k (compositions c)
      → HasComposition s (Some (known_of c)) k
  of_assembly : (a : Assembly) → HasItem s (items.Assembly a) → HasComposition s None a.composition

-- it is one of the list, and not the first
pub record IsLater {X : Type 0} (xs : List X) (x : X) : Type 0 where
  pub first : X
  pub others : List X
  pub split : xs ≡ first ∷ others
  pub stands : IsIn x others
