-- The pages of the programs of leaves, by address. What is said holds where no two sections have a page in common.
use Rattle.std.specs.Prelude.{ℕ, ◌+◌, ◌*◌, leb, if◌then◌else◌, List, [], ◌∷◌, map, slice_get, sum}
use Rattle.source_images.specs.Below.{Section, flat_map, option_map_or, range_with_len}
use Rattle.source_images.specs.Images.{Placed, sections_of}
use Rattle.source_images.specs.SectionPages.{fill_of, page_count}
use Rattle.source_images.specs.declared.images.Images.{Images}
use Rattle.source_images.specs.declared.pages.SectionPage.{SectionPage}

-- in front of the first section that begins no earlier
abbrev pub put_section : Placed → List Placed → List Placed
put_section x [] = x ∷ []
put_section x (y ∷ ys) = if leb x.section.vaddr y.section.vaddr then x ∷ y ∷ ys else y ∷ put_section x ys

abbrev pub by_address : List Placed → List Placed
by_address [] = []
by_address (x ∷ xs) = put_section x (by_address xs)

abbrev pub page_at : List ℕ → Section → ℕ → SectionPage
page_at file s j = record { vaddr = s.vaddr + 4096 * j; write = s.write; fill = fill_of file s j }

-- the name of an image, which is that of its file
abbrev pub name_of : Images → ℕ → List ℕ
name_of images m = option_map_or (λ image. image.name) (slice_get images.images m) []

abbrev pub pages_of : Images → Placed → List SectionPage
pages_of images x = map (page_at (name_of images x.image) x.section) (range_with_len 0 (page_count x.section))

-- the pages of the programs that leaves run
abbrev pub section_pages : Images → List ℕ → List SectionPage
section_pages images leaves = flat_map (pages_of images) (by_address (sections_of images leaves))

-- how many they are
abbrev pub section_page_count : Images → List ℕ → ℕ
section_page_count images leaves = sum (map (λ x. page_count x.section) (sections_of images leaves))
