-- What the reading of section tables goes through: what is read of each table, and what comes of all that is read.
use Rattle.std.specs.Prelude.{◌≡◌, ℕ, ◌+◌, ◌++◌, if◌then◌else◌, List, [], ◌∷◌, map, codes, fold, Option, None, Some, Result, Ok, Err, position, is_some, slice_get, string_bytes, unwrap_or}
use Rattle.source_images.specs.Below.{Contents, Fault, Flat, Image, IsIn, Limit, Line, NoSections, Place, Source, SourceError, bad_between, bytes_eq, end_of, first_fault, flat_map, get, image_of, lines, noted, option_and_then, option_map_or}
use Rattle.std.specs.Borrow.{Bor}
use Rattle.source_images.specs.declared.images.Images.{Images}
use Rattle.source_images.specs.Archs.{is_other}
use Rattle.source_images.specs.Found.{Found, AreFound, absent, too_long, table, found_bytes, table_name}
use Rattle.source_images.specs.TableFaults.{listed}
use Rattle.source_images.specs.Types.{Name, type_number}
use Rattle.cam_base.specs.declared.error.Unread.TheVariants as error
use Rattle.source_images.specs.declared.merge.Merged.{Merged}
use Rattle.source_images.specs.declared.reading.Reading.{Reading}
use Rattle.source_images.specs.declared.reading.Reading.TheVariants.{Absent, TooLong, Faulty, Sound}
use Rattle.source_images.specs.declared.tables.Table.{Table}

-- names that are borrowed
abbrev pub names_told : List (Bor Name) → List Name
names_told = map (λ name. name.now)

-- types with one more, unless it is there
abbrev pub with_type : List Name → Name → List Name
with_type names name = if is_some (position (bytes_eq name) names) then names else names ++ name ∷ []

-- ---- readings

-- the place of the first line
abbrev pub first_place : ℕ → List Line → Place
first_place file [] = record { file = file; first = 0; end = 0 }
first_place file (line ∷ more) = record { file = file; first = line.first; end = end_of line }

abbrev pub reading_in : ℕ → List Line → Option Fault → Option Image → Reading
reading_in file lines (Some fault) image = Faulty fault
reading_in file lines None None = Faulty (bad_between file 0 0)
reading_in file lines None (Some image) = Sound image (first_place file lines)

-- what is read of the table with this file number, of this type and under this name
abbrev pub reading_of : ℕ → Name × List ℕ → Found → Reading
reading_of file (name, in_file) absent = Absent in_file
reading_of file (name, in_file) too_long = TooLong
reading_of file (name, in_file) (table bytes) = reading_in file (lines bytes) (first_fault file bytes) (image_of name bytes)

-- of tables with the file numbers from this one on
abbrev pub readings_of : ℕ → List (Name × List ℕ) → List Found → List Reading
readings_of file [] all = []
readings_of file (t ∷ tables) [] = []
readings_of file (t ∷ tables) (x ∷ all) = reading_of file t x ∷ readings_of (file + 1) tables all

-- this is found under a name: what the contents have
abbrev pub IsFound : Contents → List ℕ → Found → Type 0
IsFound contents name x = x ≡ found_bytes (get contents name)

-- the answer for one table: what is read of what is found
abbrev pub IsTableRead : Contents → ℕ → Name × List ℕ → Result Reading SourceError → Type 0
IsTableRead contents file t (Ok reading) = (x : Found) × IsFound contents t.1 x × (reading ≡ reading_of file t x)
IsTableRead contents file t (Err (error.Fault fault f)) = ⊥
IsTableRead contents file t (Err (error.ReadFault f)) = f ≡ t.1
IsTableRead contents file t (Err error.NoMemory) = Unit {0}

-- the answer for all tables
abbrev pub AreTablesRead : Contents → ℕ → List (Name × List ℕ) → Result (List Reading) SourceError → Type 0
AreTablesRead contents file tables (Ok readings) =
    (all : List Found) × AreFound contents (map (λ t. t.1) tables) all × (readings ≡ readings_of file tables all)
AreTablesRead contents file tables (Err (error.Fault fault f)) = ⊥
AreTablesRead contents file tables (Err (error.ReadFault f)) = IsIn f (map (λ t. t.1) tables)
AreTablesRead contents file tables (Err error.NoMemory) = Unit {0}

-- ---- tables

-- the table of a type in a folder: the type's name, and the file's
abbrev pub table_at : List ℕ → Name → Name × List ℕ
table_at folder name = (name, table_name folder name)

abbrev pub table_told : Table → Name × List ℕ
table_told t = (t.name.now, string_bytes t.file)

abbrev pub tables_told : List Table → List (Name × List ℕ)
tables_told = map table_told

-- the names of the files
abbrev pub files_told : List Table → List (List ℕ)
files_told tables = map (λ t. t.1) (tables_told tables)

-- ---- what is missing

abbrev pub missing_reading : Place → Reading → List Fault
missing_reading place (Absent file) = record { code = NoSections; place = place; name = file } ∷ []
missing_reading place TooLong = record { code = Limit; place = place; name = codes "file size" } ∷ []
missing_reading place (Faulty fault) = []
missing_reading place (Sound image at) = []

-- for a leaf whose type has this number and stands at this place
abbrev pub missing_by : List Reading → Place → Option ℕ → List Fault
missing_by readings place number = option_map_or (missing_reading place) (option_and_then (slice_get readings) number) []

-- ---- merging

abbrev pub none_merged : Merged
none_merged = record { fault = None; arch = None; images = [] }

abbrev pub with_fault : Merged → Fault → Merged
with_fault m fault = record m { fault = Some fault }

abbrev pub with_image : Merged → Image → Place → Merged
with_image m image place =
    if is_other m.arch image.arch then with_fault m (bad_between place.file place.first place.end)
    else record m { arch = Some image.arch; images = m.images ++ image ∷ [] }

abbrev pub with_more : Merged → Reading → Merged
with_more m (Absent file) = m
with_more m TooLong = m
with_more m (Faulty fault) = with_fault m fault
with_more m (Sound image place) = with_image m image place

-- what a reading adds, unless a fault was found
abbrev pub merged_with : Merged → Reading → Merged
merged_with m reading = if is_some m.fault then m else with_more m reading

abbrev pub merged : List Reading → Merged
merged = fold merged_with none_merged

-- ---- the answer

-- the first fault, where these are the first of tables that are missing and of lines
abbrev pub first_of : Option Fault → Option Fault → Option Fault
first_of missing line = noted missing (listed line)

-- the name of a file by its number, where these are the tables
abbrev pub file_name : Source → List (Name × List ℕ) → ℕ → List ℕ
file_name source tables n = unwrap_or (slice_get (map (λ f. f.name) source.files ++ map (λ t. t.1) tables) n) []

abbrev pub first_missing : Source → Flat → List Reading → Option Fault
first_missing source flat readings =
    noted None (flat_map (λ leaf. missing_by readings leaf.place (type_number source flat leaf)) flat.leaves)

abbrev pub first_read : Source → Flat → List Reading → Option Fault
first_read source flat readings = first_of (first_missing source flat readings) (merged readings).fault

-- the answer for these readings of these tables
abbrev pub IsAnswer : Source → Flat → List (Name × List ℕ) → List Reading → Result Images SourceError → Type 0
IsAnswer source flat tables readings (Ok images) =
    (first_read source flat readings ≡ None)
    × (images ≡ record { images = (merged readings).images; of_leaf = map (type_number source flat) flat.leaves })
IsAnswer source flat tables readings (Err (error.Fault fault file)) =
    (first_read source flat readings ≡ Some fault) × (file ≡ file_name source tables fault.place.file)
IsAnswer source flat tables readings (Err (error.ReadFault file)) = ⊥
IsAnswer source flat tables readings (Err error.NoMemory) = Unit {0}
