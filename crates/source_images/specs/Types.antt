-- The types of a system's software: the components of its leaves that are no devices, by name, each once, in the order of
-- their first leaves.
use Rattle.std.specs.Prelude.{ℕ, if◌then◌else◌, List, Option, Some, None, position, slice_get}
use Rattle.source_images.specs.Below.{Flat, Leaf, Source, bytes_eq, filter_map, option_and_then}
use Rattle.adl_ast.specs.declared.file.Item.{Item}
use Rattle.adl_ast.specs.declared.file.Item.TheVariants as items
use Rattle.adl_meaning.specs.Lists.{firsts}
use Rattle.adl_meaning.specs.declared.item_at.ItemAt.{ItemAt}

abbrev pub Name : Type 0
Name = List ℕ

abbrev pub component_of : Item → Option Name
component_of (items.Component c) = Some c.id.name
component_of _ = None

-- the name of the component that stands there
abbrev pub component_name : Source → ItemAt → Option Name
component_name source at =
    option_and_then (λ f. option_and_then (λ e. component_of e.item) (slice_get f.tree.items at.item))
    (slice_get source.files at.file)

-- the type of a leaf; a device has none
abbrev pub type_of : Source → Leaf → Option Name
type_of source leaf = if leaf.hardware then None else component_name source leaf.component

abbrev pub types : Source → Flat → List Name
types source flat = firsts bytes_eq (filter_map (type_of source) flat.leaves)

-- the number of a leaf's type
abbrev pub type_number : Source → Flat → Leaf → Option ℕ
type_number source flat leaf = option_and_then (λ name. position (bytes_eq name) (types source flat)) (type_of source leaf)
