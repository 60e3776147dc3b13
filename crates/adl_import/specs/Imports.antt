-- The imports of a file, and the names of the files that they give. An import's path is joined to the folder of the
-- importing file, and a path between angle brackets to the folder of the root. Three names between angle brackets are
-- built in, and name no file. An include names no file either.
use Rattle.std.specs.Prelude.{ℕ, Bool, ◌&&◌, ◌||◌, if◌then◌else◌, List, [], ◌∷◌, Option, codes}
use Rattle.adl_import.specs.Below.{File, Import, bytes_eq, flat_map, list_any}
use Rattle.adl_ast.specs.declared.file.Ended.{Ended}
use Rattle.adl_ast.specs.declared.file.Item.{Item}
use Rattle.adl_ast.specs.declared.file.Item.TheVariants as items
use Rattle.adl_import.specs.Folding.{is_slash, import_name}

abbrev pub import_of : Item → List Import
import_of (items.Import import) = import ∷ []
import_of _ = []

abbrev pub imports_in : List Ended → List Import
imports_in = flat_map (λ ended. import_of ended.item)

-- the imports of a file, in source order
abbrev pub imports_of : File → List Import
imports_of file = imports_in file.items

abbrev pub is_built_in_name : List ℕ → Bool
is_built_in_name name =
    bytes_eq name (codes "std_connector.camkes")
    || (bytes_eq name (codes "global-connector.camkes") || bytes_eq name (codes "global-connectors.camkes"))

abbrev pub is_built_in : Import → Bool
is_built_in import = import.angle && is_built_in_name import.path

-- the folder of a file: the bytes of its name up to the last slash
abbrev pub folder_of : List ℕ → List ℕ
folder_of [] = []
folder_of (b ∷ bs) = if list_any is_slash (b ∷ bs) then b ∷ folder_of bs else []

-- the name that an import gives in the file `own` of the source of `root`; none where its path names no file
abbrev pub name_given : List ℕ → List ℕ → Import → Option (List ℕ)
name_given root own import = import_name (folder_of (if import.angle then root else own)) import.path
