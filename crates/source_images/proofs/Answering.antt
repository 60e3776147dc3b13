-- What is answered for readings, in terms of what was found.
use Rattle.source_images.proofs.Common.{AreFound, AreImagesRead, AreTablesRead, Bool, Bor, Contents, Err, Fault, Flat, Found, IfOk, Image, Images, IsAnswer, IsIn, Leaf, Line, List, Name, None, Ok, Option, Place, Reading, Result, Some, Source}
use Rattle.source_images.proofs.Common.{SourceError, Table, [], absent, ap, arith, cond, earlier, false, file_name, files_told, first_arch, first_fault, first_missing, first_of, first_read, first_table_fault, flat_map, folder_of, get_or, image_of}
use Rattle.source_images.proofs.Common.{images_in, least, length, length-map, lines, listed, map, merged, missing, missing_at, missing_by, missing_reading, name_of_file, names_told, noted, noted-append, noted-none, option_map}
use Rattle.source_images.proofs.Common.{option_map_or, precedes, reading_in, reading_of, readings_of, refl, slice_get, slice_get-get_or, slice_get_past, string_bytes, subst, suc, sym, table, table_at, table_name, table_names, tables_told, too_long}
use Rattle.source_images.proofs.Common.{rules, true, type_number, types, unwrap_or, zero, zip, ℕ, ◌++◌, ◌+◌, ◌-◌, ◌<◌, ◌∙◌, ◌∷◌, ◌≡◌, ◌≤◌}
use Rattle.source_images.proofs.TableReads.{found_count}
use Rattle.source_images.proofs.Lines.{first_line_fault, least-append, least-line_faults}
use Rattle.source_images.proofs.Merging.{IsMerged, merged_tables}
use Rattle.cam_base.specs.declared.error.Unread.TheVariants as error

names_are : (folder : List ℕ) (ns : List Name) → map (λ (t : Name × List ℕ). t.0) (map (table_at folder) ns) ≡ ns
names_are folder [] = refl
names_are folder (n ∷ ns) = ap (λ z. n ∷ z) (names_are folder ns)

files_are : (folder : List ℕ) (ns : List Name) → map (λ (t : Name × List ℕ). t.1) (map (table_at folder) ns) ≡ map
    (table_name folder) ns
files_are folder [] = refl
files_are folder (n ∷ ns) = ap (λ z. table_name folder n ∷ z) (files_are folder ns)

-- ---- what is missing

nothing_missing : (place : Place) (n : ℕ) (ls : List Line) (f : Option Fault) (i : Option Image)
    → missing_reading place (reading_in n ls f i) ≡ []
nothing_missing place n ls (Some f) i = refl
nothing_missing place n ls None None = refl
nothing_missing place n ls None (Some i) = refl

missing_one : (place : Place) (n : ℕ) (t : Name × List ℕ) (x : Found)
    → missing_reading place (reading_of n t x) ≡ missing place (t.1, x)
missing_one place n t absent = refl
missing_one place n t too_long = refl
missing_one place n t (table bytes) = nothing_missing place n (lines bytes) (first_fault n bytes) (image_of t.0 bytes)

missing_at_number : (place : Place) (n : ℕ) (ts : List (Name × List ℕ)) (all : List Found) (k : ℕ)
    → option_map_or (missing_reading place) (slice_get (readings_of n ts all) k) [] ≡ option_map_or (missing place)
    (slice_get (zip (map (λ t. t.1) ts) all) k) []
missing_at_number place n [] all k = refl
missing_at_number place n (t ∷ ts) [] k = refl
missing_at_number place n (t ∷ ts) (x ∷ all) zero = missing_one place n t x
missing_at_number place n (t ∷ ts) (x ∷ all) (suc k) = missing_at_number place (n + 1) ts all k

missing_same : (place : Place) (n : ℕ) (ts : List (Name × List ℕ)) (all : List Found) (number : Option ℕ)
    → missing_by (readings_of n ts all) place number ≡ missing_at (zip (map (λ t. t.1) ts) all) place number
missing_same place n ts all None = refl
missing_same place n ts all (Some k) = missing_at_number place n ts all k

each_same : {X Y : Type 0} (f g : X → List Y) (xs : List X) → ((x : X) → f x ≡ g x) → flat_map f xs ≡ flat_map g xs
each_same f g [] e = refl
each_same f g (x ∷ xs) e = ap (λ z. z ++ flat_map f xs) (e x) ∙ ap (λ z. g x ++ z) (each_same f g xs e)

-- ---- the first fault

least_listed : (o : Option Fault) → least (listed o) ≡ o
least_listed None = refl
least_listed (Some f) = refl

read_first : (ms : List Fault) (line : Option Fault) → noted (noted None ms) (listed line) ≡ earlier (least ms) line
read_first ms line = sym (noted-append None ms (listed line)) ∙ noted-none (ms ++ listed line) ∙ least-append ms (listed line)
    ∙ ap (earlier (least ms)) (least_listed line)

no_right : (a b : Option Fault) → earlier a b ≡ None → b ≡ None
no_right None b e = e
no_right (Some f) None e = refl
no_right (Some f) (Some g) e = by_test (precedes g f) e
  where
    by_test : (p : Bool) → cond p (Some g) (Some f) ≡ None → Some g ≡ None
    by_test true e = e
    by_test false e = absurd (cc)

module _ (root : List ℕ) (source : Source) (flat : Flat) (all : List Found) where
  abbrev all_tables : List (Name × List ℕ)
  all_tables = map (table_at (folder_of root)) (types source flat)

  abbrev all_readings : List Reading
  all_readings = readings_of (length source.files) all_tables all

  abbrev missed : List Fault
  missed = flat_map (λ (leaf : Leaf). missing_by all_readings leaf.place (type_number source flat leaf)) flat.leaves

  abbrev missed_told : List Fault
  missed_told = flat_map (λ (leaf : Leaf). missing_at (zip (table_names root source flat) all) leaf.place
      (type_number source flat leaf)) flat.leaves

  missed_same : missed ≡ flat_map (λ (leaf : Leaf). missing_at (zip (table_names root source flat) all) leaf.place
      (type_number source flat leaf)) flat.leaves
  missed_same = search (rules, each_same, missing_same, files_are)

  merged_here : length all_tables ≡ length all
      → IsMerged (merged all_readings) (first_line_fault (first_arch all) (length source.files) all)
      (images_in (map (λ (t : Name × List ℕ). t.0) all_tables) all)
  merged_here e = merged_tables (length source.files) all_tables all e

  first_same : length all_tables ≡ length all → first_read source flat all_readings ≡ first_table_fault root source flat all
  first_same e = search (rules, read_first, merged_here, least-line_faults, missed_same, least-append)

  images_same : length all_tables ≡ length all → first_read source flat all_readings ≡ None
      → (merged all_readings).images ≡ images_in (types source flat) all
  images_same e none = search (rules, no_right, read_first, merged_here, names_are)

  names_same : (n : ℕ) → unwrap_or (slice_get (map (λ f. f.name) source.files ++ map (λ t. t.1) all_tables) n) [] ≡ name_of_file
      root source flat n
  names_same n = ap (λ z. unwrap_or (slice_get (map (λ f. f.name) source.files ++ z) n) [])
      (files_are (folder_of root) (types source flat))

  answer_told : (contents : Contents) (result : Result Images SourceError) → AreFound contents (map (λ t. t.1) all_tables) all
      → IsAnswer source flat all_tables all_readings result → AreImagesRead contents root source flat result
  answer_told contents result told answer = by_result result answer
    where
      told_names : AreFound contents (table_names root source flat) all
      told_names = subst (λ z. AreFound contents z all) (files_are (folder_of root) (types source flat)) told

      count : length all_tables ≡ length all
      count = sym (found_count contents (map (λ t. t.1) all_tables) all told ∙ length-map all_tables (λ t. t.1))

      by_result : (r : Result Images SourceError) → IsAnswer source flat all_tables all_readings r
          → AreImagesRead contents root source flat r
      by_result (Ok images) a = search (rules, images_same, count, told_names, first_same)
      by_result (Err (error.Fault fault file)) a = search (rules, told_names, first_same, count, names_same)
      by_result (Err (error.ReadFault file)) a = absurd a
      by_result (Err error.NoMemory) a = tt

-- the answer, where all tables are read
pub answered : (contents : Contents) (root : List ℕ) (source : Source) (flat : Flat) (tables : List (Name × List ℕ))
    (readings : List Reading) (result : Result Images SourceError)
    → tables ≡ map (table_at (folder_of root)) (types source flat)
    → (all : List Found) × AreFound contents (map (λ t. t.1) tables) all
    × (readings ≡ readings_of (length source.files) tables all)
    → IsAnswer source flat tables readings result → AreImagesRead contents root source flat result
answered contents root source flat tables readings result is (all, told, read) answer = search (rules, answer_told)

-- the answer, where a table isn't read
pub failed : (contents : Contents) (root : List ℕ) (source : Source) (flat : Flat) (tables : List (Name × List ℕ)) (file : List ℕ)
    → tables ≡ map (table_at (folder_of root)) (types source flat)
    → IsIn file (map (λ t. t.1) tables) → AreImagesRead contents root source flat (Err (error.ReadFault file))
failed contents root source flat tables file is among =
    subst (IsIn file) (ap (map (λ t. t.1)) is ∙ files_are (folder_of root) (types source flat)) among

-- the answer, where reading failed
pub err_answered : (contents : Contents) (root : List ℕ) (source : Source) (flat : Flat) (tables : List (Name × List ℕ))
    (e : SourceError) (result : Result Images SourceError)
    → tables ≡ map (table_at (folder_of root)) (types source flat) → AreTablesRead contents (length source.files) tables (Err e)
    → result ≡ Err e → AreImagesRead contents root source flat result
err_answered contents root source flat tables e result is read same = subst (AreImagesRead contents root source flat) (sym same)
    (by_error e read)
  where
    by_error : (z : SourceError) → AreTablesRead contents (length source.files) tables (Err z)
        → AreImagesRead contents root source flat (Err z)
    by_error (error.Fault fault f) r = absurd r
    by_error (error.ReadFault f) r = failed contents root source flat tables f is r
    by_error error.NoMemory r = tt

pub first_answer : (source : Source) (flat : Flat) (readings slice : List Reading) (missing line first : Option Fault)
    (fault : Fault) → slice ≡ readings → missing ≡ first_missing source flat slice → line ≡ (merged readings).fault
    → first ≡ first_of missing line → first ≡ Some fault → first_read source flat readings ≡ Some fault
first_answer source flat readings slice missing line first fault same a b c d = cc

-- ---- names of files

get_behind : {X : Type 0} (xs ys : List X) (n : ℕ) → length xs ≤ n → slice_get (xs ++ ys) n ≡ slice_get ys (n - length xs)
get_behind [] ys n h = ap (slice_get ys) (omega arith)
get_behind (x ∷ xs) ys zero h = absurd (omega arith)
get_behind (x ∷ xs) ys (suc n) h = get_behind xs ys n (omega arith) ∙ ap (slice_get ys) (omega arith)

told_at : (tables : List Table) (k : ℕ) → slice_get (map (λ (t : Name × List ℕ). t.1) (tables_told tables)) k ≡ option_map
    (λ (t : Table). string_bytes t.file) (slice_get tables k)
told_at [] k = refl
told_at (t ∷ tables) zero = refl
told_at (t ∷ tables) (suc k) = told_at tables k

-- behind the files of the source
pub name_behind : (source : Source) (tables : List Table) (n : ℕ) → length source.files ≤ n
    → file_name source (tables_told tables) n ≡ unwrap_or (option_map (λ (t : Table). string_bytes t.file)
    (slice_get tables (n - length source.files))) []
name_behind source tables n h = grind (arith, length-map, get_behind, told_at)

-- of a table
pub name_at_table : (source : Source) (tables : List Table) (n k : ℕ) (t : Table) → length source.files ≤ n
    → k ≡ n - length source.files → k < length tables → t ≡ get_or tables k t
    → string_bytes t.file ≡ file_name source (tables_told tables) n
name_at_table source tables n k t h is lt at = search (rules, name_behind, slice_get-get_or)

-- past all tables
pub name_past : (source : Source) (tables : List Table) (n k : ℕ) → length source.files ≤ n → k ≡ n - length source.files
    → length tables ≤ k → [] ≡ file_name source (tables_told tables) n
name_past source tables n k h is past = search (rules, name_behind, slice_get_past)

pub ok_as : {E : Type 0} (r : Result (List ℕ) E) (x y : List ℕ) → x ≡ y → IfOk r (λ z. z ≡ x) → IfOk r (λ z. z ≡ y)
ok_as (Ok z) x y e h = h ∙ e
ok_as (Err z) x y e h = tt

-- the tables of all types
pub tables_are : (root : List ℕ) (source : Source) (flat : Flat) (slice tables : List Table) (names borrowed : List (Bor Name))
    (folder : List ℕ) → slice ≡ tables → tables_told tables ≡ map (table_at folder) (names_told borrowed)
    → folder ≡ folder_of root → borrowed ≡ names → names_told names ≡ types source flat
    → tables_told slice ≡ map (table_at (folder_of root)) (types source flat)
tables_are root source flat slice tables names borrowed folder a b c d e = cc

-- the names of their files
pub files_named : (root : List ℕ) (source : Source) (flat : Flat) (tables : List Table)
    → tables_told tables ≡ map (table_at (folder_of root)) (types source flat)
    → files_told tables ≡ table_names root source flat
files_named root source flat tables is = ap (map (λ t. t.1)) is ∙ files_are (folder_of root) (types source flat)
