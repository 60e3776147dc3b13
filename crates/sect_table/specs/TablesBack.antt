-- Which images a section table can say: the entry is a number of 64 bits, there are no more sections than a table may have,
-- and each section has a name, begins a page, has bytes, and ends within 64 bits in memory and in its file.
use Rattle.std.specs.Prelude.{◌≡◌, ◌<◌, ◌≤◌, ◌^◌, ℕ, nat_lt, true, List, length}
use Rattle.std.specs.List.{AllByRecursion, list_all}
use Rattle.cam_base.specs.Names.{is_name}
use Rattle.sect_table.specs.Sections.{is_sound}
use Rattle.sect_table.specs.Tables.{sections_limit}
use Rattle.sect_table.specs.declared.image.Image.{Image}
use Rattle.sect_table.specs.declared.image.Section.{Section}

pub record HasRow (s : Section) : Type 0 where
  pub named : is_name s.name ≡ true
  pub sound : is_sound s ≡ true

pub record HasTable (image : Image) : Type 0 where
  pub entry : image.entry < 2 ^ 64
  pub few : length image.sections ≤ sections_limit
  pub rows : AllByRecursion HasRow image.sections

-- the bytes of a file
pub record AreBytes (bytes : List ℕ) : Type 0 where
  pub few : length bytes < 2 ^ 64
  pub small : list_all (λ b. nat_lt b 256) bytes ≡ true
