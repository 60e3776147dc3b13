-- The members of a leaf are those of its component, which stands in the source where the leaf says.
use Rattle.std.specs.Prelude.{ℕ, Bool, true, false, List, [], Option, Some, None, slice_get}
use Rattle.cspace_layout.specs.Below.{Ended, Flat, Item, ItemAt, Member, Source, SourceFile}
use Rattle.adl_meaning.specs.declared.flat.Leaf.{Leaf}
use Rattle.adl_ast.specs.declared.component.Member.TheVariants as members
use Rattle.adl_ast.specs.declared.file.Item.TheVariants as items

abbrev pub members_of : Item → List Member
members_of (items.Import i) = []
members_of (items.Procedure p) = []
members_of (items.Component c) = c.members
members_of (items.Assembly a) = []

abbrev pub members_in : Option Ended → List Member
members_in None = []
members_in (Some e) = members_of e.item

abbrev pub items_of_file : Option SourceFile → List Ended
items_of_file None = []
items_of_file (Some f) = f.tree.items

-- the members of the component that stands there
abbrev pub members_at : Source → ItemAt → List Member
members_at source at = members_in (slice_get (items_of_file (slice_get source.files at.file)) at.item)

abbrev pub members_of_leaf : Source → Option Leaf → List Member
members_of_leaf source None = []
members_of_leaf source (Some leaf) = members_at source leaf.component

-- the members of the leaf with this number
abbrev pub leaf_members : Source → Flat → ℕ → List Member
leaf_members source flat leaf = members_of_leaf source (slice_get flat.leaves leaf)

abbrev pub is_lock : Member → Bool
is_lock (members.Lock l) = true
is_lock (members.Control p) = false
is_lock (members.Hardware p) = false
is_lock (members.Include i) = false
is_lock (members.Interface i) = false
is_lock (members.Attribute a) = false
is_lock (members.Composition k) = false
is_lock (members.Configuration f) = false
