-- The fault of a limit of the layouts: it stands at the keyword of the first assembly, and its name says which limit it is.
use Rattle.std.specs.Prelude.{ℕ, List, [], ◌∷◌, Option, Some, None, option_map, slice_get}
use Rattle.cspace_layout.specs.Below.{Ended, Fault, Item, ItemAt, Place, Source, SourceFile, assemblies, option_or}
use Rattle.adl_meaning.specs.Prelude.{Assembly}
use Rattle.adl_ast.specs.declared.file.Item.TheVariants as items
use Rattle.cam_base.specs.declared.code.Code.TheVariants as code

abbrev pub place_in : Option (ItemAt × Assembly) → Option Place
place_in found = option_map (λ a. a.1.place) found

-- the place of the keyword of the first assembly
abbrev pub keyword : Source → Option Place
keyword source = place_in (slice_get (assemblies source) 0)

abbrev pub fault_at : Place → List ℕ → Fault
fault_at place name = record { code = code.Limit; place = place; name = name }

abbrev pub limit_fault : Source → List ℕ → Option Fault
limit_fault source name = option_map (λ place. fault_at place name) (keyword source)

-- ---- as it is looked for, file by file

abbrev pub keyword_of : Item → Option Place
keyword_of (items.Import i) = None
keyword_of (items.Procedure p) = None
keyword_of (items.Component c) = None
keyword_of (items.Assembly a) = Some a.place

abbrev pub keyword_in : List Ended → Option Place
keyword_in [] = None
keyword_in (e ∷ es) = option_or (keyword_of e.item) (keyword_in es)

abbrev pub keyword_among : List SourceFile → Option Place
keyword_among [] = None
keyword_among (f ∷ fs) = option_or (keyword_in f.tree.items) (keyword_among fs)
