-- The items of a source, and what the names of procedures and components stand for: the first item of the name, where
-- files count in their order and items in theirs. One name may be that of a procedure and of a component.
use Rattle.std.specs.Prelude.{◌≡◌, ◌==◌, ◌≤◌, ℕ, Bool, true, if◌then◌else◌, nat_lt, List, [], ◌∷◌, map, length, Option, Some, None, option_map}
use Rattle.adl_meaning.specs.Below.{All, AllByRecursion, Assembly, Component, Item, Procedure, Source, bytes_eq, enumerate_from, filter_map, find, flat_map}
use Rattle.adl_ast.specs.declared.file.Item.TheVariants as items
use Rattle.adl_ast.specs.declared.source.SourceFile.{SourceFile}
use Rattle.adl_meaning.specs.declared.item_at.ItemAt.{ItemAt}

abbrev pub Name : Type 0
Name = List ℕ

-- the items of the file with this number, each with its place
abbrev pub items_in : ℕ × SourceFile → List (ItemAt × Item)
items_in f = map (λ e. (record { file = f.0; item = e.0 }, e.1.item)) (enumerate_from 0 f.1.tree.items)

-- the items of a source, each with its place
abbrev pub items_of : Source → List (ItemAt × Item)
items_of s = flat_map items_in (enumerate_from 0 s.files)

-- ---- by kind

abbrev pub as_procedure : ItemAt × Item → Option (ItemAt × Procedure)
as_procedure (at, items.Import i) = None
as_procedure (at, items.Procedure p) = Some (at, p)
as_procedure (at, items.Component c) = None
as_procedure (at, items.Assembly a) = None

abbrev pub as_component : ItemAt × Item → Option (ItemAt × Component)
as_component (at, items.Import i) = None
as_component (at, items.Procedure p) = None
as_component (at, items.Component c) = Some (at, c)
as_component (at, items.Assembly a) = None

abbrev pub as_assembly : ItemAt × Item → Option (ItemAt × Assembly)
as_assembly (at, items.Import i) = None
as_assembly (at, items.Procedure p) = None
as_assembly (at, items.Component c) = None
as_assembly (at, items.Assembly a) = Some (at, a)

abbrev pub procedures : Source → List (ItemAt × Procedure)
procedures s = filter_map as_procedure (items_of s)

abbrev pub components : Source → List (ItemAt × Component)
components s = filter_map as_component (items_of s)

abbrev pub assemblies : Source → List (ItemAt × Assembly)
assemblies s = filter_map as_assembly (items_of s)

-- ---- by name

-- the first procedure of the name
abbrev pub procedure_named : Source → Name → Option (ItemAt × Procedure)
procedure_named s n = find (λ p. bytes_eq n p.1.id.name) (procedures s)

-- the first component of the name
abbrev pub component_named : Source → Name → Option (ItemAt × Component)
component_named s n = find (λ c. bytes_eq n c.1.id.name) (components s)

-- the component that the name stands for
abbrev pub component_of : Source → Name → Option Component
component_of s n = option_map (λ c. c.1) (component_named s n)

-- ---- order

-- the item a stands before the item b: in an earlier file, or earlier in its file
abbrev pub stands_before : ItemAt → ItemAt → Bool
stands_before a b = if a.file == b.file then nat_lt a.item b.item else nat_lt a.file b.file

-- the places are those of items in source order, none twice
abbrev pub Rises : List ItemAt → Type 0
Rises [] = Unit {0}
Rises (a ∷ more) = AllByRecursion (λ b. stands_before a b ≡ true) more × Rises more

-- ---- how many there may be

-- At most 64 files, each of at most 1,048,576 items. Every source whose trees spell the tokens of at most 64 files of at
-- most 1,048,576 bytes is of this kind, since each item is spelled by a token at least.
pub record AreFew (s : Source) : Type 0 where
  pub files : length s.files ≤ 64
  pub items : All (λ f. length f.tree.items ≤ 1048576) s.files
