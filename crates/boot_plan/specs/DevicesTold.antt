-- What is kept of the regions and pages of devices.
use Rattle.std.specs.Prelude.{◌≡◌, ℕ, ◌%◌, ◌^◌, leb, Bool, ◌&&◌, List}
use Rattle.std.specs.BTreeSet.{BTreeSet, contains}
use Rattle.std.specs.List.{list_any}
use Rattle.std.specs.Ordering.{nat_cmp}
use Rattle.boot_plan.specs.Devices.{has_page, is_needed}
use Rattle.boot_plan.specs.declared.untyped.Untyped.{Untyped}
use Rattle.name_tables.specs.Sharing.{shares}
use Rattle.name_tables.specs.declared.region.Region.{Region}

abbrev pub page : ℕ → Region
page paddr = record { key = (1, 0); first = paddr; count = 4096 }

-- the region is a device's, and has whole pages
abbrev pub has_pages : Untyped → Bool
has_pages r = r.device && leb 12 r.bits

-- its addresses, of another key than a page
abbrev pub pages_of : Untyped → Region
pages_of r = record { key = (0, 0); first = r.paddr; count = 2 ^ r.bits }

-- the index tells of each page whether a region of a device has it
abbrev pub IsIndexOf : List Untyped → List Region → Type 0
IsIndexOf rs index = (paddr : ℕ) → paddr % 4096 ≡ 0 → list_any (shares (page paddr)) index ≡ list_any (has_page paddr) rs

-- the set tells of each page whether it is one of these
abbrev pub IsSetOf : List ℕ → BTreeSet ℕ → Type 0
IsSetOf before set = (paddr : ℕ) → contains nat_cmp set paddr ≡ is_needed paddr before
