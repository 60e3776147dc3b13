-- The faults of section tables:
--
--   NoSections   a table is absent: at the word of each leaf of its type, named as the file
--   Limit        it has more than 1,048,576 bytes: at the same words, named `file size`
--   BadSections  a line of it is no line of a table; or each is, but the first names another architecture than the first
--                table whose first line is of its form: at the line
--
-- The tables have the file numbers behind those of the source.
use Rattle.std.specs.Prelude.{ℕ, ◌+◌, List, [], ◌∷◌, ◌++◌, map, length, codes, Option, Some, None, slice_get, unwrap_or}
use Rattle.source_images.specs.Below.{Arch, Fault, Flat, Leaf, Limit, NoSections, Place, Source, first_fault, flat_map, least, option_and_then, option_map_or, option_or, zip}
use Rattle.source_images.specs.Archs.{first_arch, other_arch}
use Rattle.source_images.specs.Found.{Found, absent, too_long, table, table_names}
use Rattle.source_images.specs.Types.{type_number}

-- of the table of this name, for a leaf whose type stands at this place
abbrev pub missing : Place → List ℕ × Found → List Fault
missing place (file, absent) = record { code = NoSections; place = place; name = file } ∷ []
missing place (file, too_long) = record { code = Limit; place = place; name = codes "file size" } ∷ []
missing place (file, table bytes) = []

abbrev pub missing_at : List (List ℕ × Found) → Place → Option ℕ → List Fault
missing_at tables place number = option_map_or (missing place) (option_and_then (slice_get tables) number) []

abbrev pub leaf_faults : Source → Flat → List (List ℕ × Found) → Leaf → List Fault
leaf_faults source flat tables leaf = missing_at tables leaf.place (type_number source flat leaf)

-- of the lines of the table with this file number
abbrev pub line_fault : Option Arch → ℕ → Found → Option Fault
line_fault first file absent = None
line_fault first file too_long = None
line_fault first file (table bytes) = option_or (first_fault file bytes) (other_arch first file bytes)

abbrev pub listed : Option Fault → List Fault
listed None = []
listed (Some fault) = fault ∷ []

-- of the lines of tables with the file numbers from this one on
abbrev pub line_faults : Option Arch → ℕ → List Found → List Fault
line_faults first file [] = []
line_faults first file (x ∷ more) = listed (line_fault first file x) ++ line_faults first (file + 1) more

abbrev pub table_faults : List ℕ → Source → Flat → List Found → List Fault
table_faults root source flat all =
    flat_map (leaf_faults source flat (zip (table_names root source flat) all)) flat.leaves
    ++ line_faults (first_arch all) (length source.files) all

-- the first fault of section tables
abbrev pub first_table_fault : List ℕ → Source → Flat → List Found → Option Fault
first_table_fault root source flat all = least (table_faults root source flat all)

-- the name of a file by its number: of the source, or a section table
abbrev pub name_of_file : List ℕ → Source → Flat → ℕ → List ℕ
name_of_file root source flat n = unwrap_or (slice_get (map (λ f. f.name) source.files ++ table_names root source flat) n) []
