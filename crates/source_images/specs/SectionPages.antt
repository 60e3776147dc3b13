-- The pages of sections. A section begins a page and ends in the last page that it has a byte of.
use Rattle.std.specs.Prelude.{ℕ, ◌+◌, ◌-◌, ◌*◌, ◌/◌, nat_lt, leb, min, Bool, ◌&&◌, List, Option, option_map, map}
use Rattle.source_images.specs.Below.{Section}
use Rattle.cap_model.specs.declared.object.Fill.{Fill}
use Rattle.name_tables.specs.declared.region.Region.{Region}
use Rattle.source_images.specs.Images.{Placed}
use Rattle.source_images.specs.declared.sections.Placed.{Placed as Given}

-- the numbers of its first page and of the page behind its last
abbrev pub first_page : Section → ℕ
first_page s = s.vaddr / 4096

abbrev pub page_count : Section → ℕ
page_count s = (s.size + 4095) / 4096

abbrev pub end_page : Section → ℕ
end_page s = first_page s + page_count s

-- two sections have a page in common
abbrev pub share_page : Section → Section → Bool
share_page a b = nat_lt (first_page a) (end_page b) && nat_lt (first_page b) (end_page a)

-- all its pages lie behind the first one and in front of an address
abbrev pub is_inside : ℕ → Section → Bool
is_inside end s = leb 4096 s.vaddr && leb (s.vaddr + s.size) end

-- what page j of a section is filled with: its bytes of the program's file
abbrev pub fill_from : List ℕ → Section → ℕ → ℕ → Fill
fill_from file s j at = record { offset = 0; length = min (s.size - 4096 * j) 4096; file = file; at = at + 4096 * j }

abbrev pub fill_of : List ℕ → Section → ℕ → Option Fill
fill_of file s j = option_map (fill_from file s j) s.at

abbrev pub placed_told : Given → Placed
placed_told p = record { image = p.image; number = p.number; section = p.section.now }

abbrev pub sections_told : List Given → List Placed
sections_told = map placed_told

-- the pages of a section, under the numbers that tell it from all others
abbrev pub region_of : Placed → Region
region_of x = record { key = (x.image, x.number); first = first_page x.section; count = page_count x.section }
