-- The first fault behind the settings, in this order:
--
--   of section tables: absent, too long, a bad line, another architecture
--   of sections: two share a page, or one stands outside its window
--   of limits, at the keyword of the assembly: slots of a domain, all slots, pages, page tables, edges
--
-- Section tables stand beside the root, under the name by which it is known.
use Rattle.std.specs.Prelude.{List, ℕ, Option, is_some, if◌then◌else◌}
use Rattle.arch_compile.specs.Below.{Contents, Fault, Found, Given, Images, Source, first_edge_fault, first_front_fault, first_page_limit, first_slot_fault, first_space_fault, flat_of, found_in, given, images_of, name_of_file, option_or, settled_of}
use Rattle.arch_compile.specs.Below.{source_tables, table_names}
use Rattle.source_images.specs.TableFaults.{first_table_fault, name_of_file as name_with_tables}

-- the name of the root
abbrev pub root_of : Source → List ℕ
root_of s = name_of_file s 0

-- the names of the section tables
abbrev pub tables_beside : Source → List (List ℕ)
tables_beside s = table_names (root_of s) s (flat_of s)

-- what contents have under these names
abbrev pub found_beside : Contents → Source → List Found
found_beside contents s = found_in contents (tables_beside s)

-- the images, where this is found under these names
abbrev pub images_from : Source → List Found → Images
images_from s found = images_of s (flat_of s) found

-- the images that contents have
abbrev pub images_beside : Contents → Source → Images
images_beside contents s = images_from s (found_beside contents s)

abbrev pub spaced : Source → Images → Given
spaced s images = given s (flat_of s) (settled_of s) images

-- behind those of section tables, with these images
abbrev pub first_imaged_fault : Source → Images → Option Fault
first_imaged_fault s images =
    option_or (first_space_fault (flat_of s) images)
    (option_or (first_slot_fault s (flat_of s))
    (option_or (first_page_limit (spaced s images)) (first_edge_fault (source_tables s))))

abbrev pub first_layout_fault : Source → List Found → Option Fault
first_layout_fault s found =
    option_or (first_table_fault (root_of s) s (flat_of s) found) (first_imaged_fault s (images_from s found))

-- the first fault of all
abbrev pub first_fault : Source → List Found → Option Fault
first_fault s found = option_or (first_front_fault s) (first_layout_fault s found)

-- the name of the file in which a fault behind the settings stands: a fault of section tables may stand in one of them, any
-- other stands in a file of the source
abbrev pub file_of : Source → List Found → ℕ → List ℕ
file_of s found number =
    if is_some (first_table_fault (root_of s) s (flat_of s) found) then name_with_tables (root_of s) s (flat_of s) number
    else name_of_file s number
