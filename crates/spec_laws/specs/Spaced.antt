-- The spaces of a system as its spec has them: where the space of a domain has its root, and what stands at an address.
use Rattle.std.specs.Prelude.{◌≡◌, ◌<◌, ◌↔◌, ℕ, ◌+◌, ◌*◌, ◌/◌, Bool, true, false, List, ◌∷◌, map, drop, Option, Some, slice_get}
use Rattle.spec_laws.specs.Below.{Arrives, Buffer, Cap, EndAt, EndSetting, Fill, Frame, Given, Image, IsIn, Level, Object, Pages, Region, Section, Shape, Spec, Stack, Tables, Walk, Window, base, given, image_number, leaves_of, name_at, name_of}
use Rattle.spec_laws.specs.Below.{object_at, place, region_start, regions, root_series, root_span, setting_of, shapes, span}
use Rattle.cap_model.specs.declared.rights.Rights.{Rights}
use Rattle.cap_model.specs.Levels.{is_root_level}
use Rattle.source_images.specs.SectionPages.{fill_of, page_count}
use Rattle.system_spec.specs.declared.part.What.TheVariants.{TableOf}

-- what the spaces of a system are laid out from
abbrev pub system : Tables → Given
system t = given t.source t.flat t.settled t.images

-- ---- from the root on

-- where the root of a domain's space stands
abbrev pub root_of : Tables → ℕ → ℕ
root_of t d = place t (TableOf d 0)

abbrev pub objects_from : Spec → ℕ → List Object
objects_from spec place = drop place (map (λ e. e.object) spec.entries)

-- the capability at address v of the space whose root stands at the place: by the slots that are given for v
abbrev pub IsAt : Spec → ℕ → ℕ → Cap → Type 0
IsAt spec root v cap = Walk root (objects_from spec root) (shapes spec.arch) v cap

-- the space has a table for address v, of the first of these levels, at the place behind the root
abbrev pub IsTableFor : Spec → ℕ → List Shape → ℕ → ℕ → Type 0
IsTableFor spec root levels v n = Arrives root (objects_from spec root) levels v n

-- the root of a domain's space
pub record IsRootOf (spec : Spec) (d place : ℕ) : Type 0 where
  pub named : name_at spec place ≡ name_of (root_series spec.arch) d
  pub level : Level
  pub slots : List (ℕ × Cap)
  pub is : object_at spec place ≡ Some (Pages level slots)
  pub whole : is_root_level spec.arch level ≡ true

-- ---- what is mapped, as the source and its images say

-- where region n of a domain begins
abbrev pub begins : Tables → ℕ → ℕ → ℕ
begins t d n = region_start (base (system t)) (regions (system t) d) n

-- the image that a leaf runs
pub record Runs (t : Tables) (leaf : ℕ) (image : Image) : Type 0 where
  pub number : ℕ
  pub numbered : image_number t.images leaf ≡ Some number
  pub listed : slice_get t.images.images number ≡ Some image

-- page j of a section of a program of domain d stands at v, with this fill, and may be written or not
pub record IsSectionPage (t : Tables) (d v : ℕ) (write : Bool) (fill : Option Fill) : Type 0 where
  pub leaf : ℕ
  pub inside : IsIn leaf (leaves_of t.flat d)
  pub image : Image
  pub runs : Runs t leaf image
  pub section : Section
  pub has : IsIn section image.sections
  pub page : ℕ
  pub within : page < page_count section
  pub at : v ≡ section.vaddr + 4096 * page
  pub may_write : write ≡ section.write
  pub filled : fill ≡ fill_of image.name section page

-- page j of region n of domain d stands at v
pub record IsRegionPage (t : Tables) (d n v j : ℕ) (r : Region) : Type 0 where
  pub here : slice_get (regions (system t) d) n ≡ Some r
  pub within : j < r.pages
  pub at : v ≡ begins t d n + 4096 * j

-- what may be mapped at v in the space of domain d, and with which rights: pages of sections may be read, and written where the
-- section may; stacks and buffers may be read and written; windows as their ends' access says
pub data MapsPage (t : Tables) (d v : ℕ) (read write : Bool) : Type 0 where
  of_section : (fill : Option Fill) → read ≡ true → IsSectionPage t d v write fill → MapsPage t d v read write
  of_stack : (n j : ℕ) (r : Region) → r.content ≡ Stack → read ≡ true → write ≡ true → IsRegionPage t d n v j r
      → MapsPage t d v read write
  of_buffer : (n j : ℕ) (r : Region) → r.content ≡ Buffer → read ≡ true → write ≡ true → IsRegionPage t d n v j r
      → MapsPage t d v read write
  of_window : (n j : ℕ) (r : Region) (e : EndAt) (s : EndSetting) → r.content ≡ Window e
      → setting_of t.settled e.connection e.end ≡ Some s → read ≡ s.read → write ≡ s.write → IsRegionPage t d n v j r
      → MapsPage t d v read write

abbrev pub memory_rights : Bool → Bool → Rights
memory_rights read write = record { read = read; write = write; grant = false; reply = false }

-- ---- both

pub record ArePagesOf (t : Tables) (spec : Spec) (d root : ℕ) : Type 0 where
  -- what stands at an address is a page that is mapped there, with its rights
  pub only : (v : ℕ) (cap : Cap) → v < root_span (shapes spec.arch) → IsAt spec root v cap
      → (read write : Bool) × MapsPage t d (4096 * (v / 4096)) read write × (cap.rights ≡ memory_rights read write)
      × (cap.badge ≡ 0)
  -- and each page that is mapped stands at its addresses
  pub every : (v : ℕ) (read write : Bool) → MapsPage t d (4096 * (v / 4096)) read write
      → (v < root_span (shapes spec.arch)) × ((cap : Cap) × IsAt spec root v cap × (cap.rights ≡ memory_rights read write))
  -- by one capability, which leads to a frame
  pub one : (v : ℕ) (cap more : Cap) → v < root_span (shapes spec.arch) → IsAt spec root v cap → IsAt spec root v more
      → cap ≡ more
  pub frames : (v : ℕ) (cap : Cap) → v < root_span (shapes spec.arch) → IsAt spec root v cap
      → (paddr : Option ℕ) × (fill : Option Fill) × (object_at spec cap.object ≡ Some (Frame paddr fill))

-- a level of tables has one for an address exactly where a page is mapped under it
abbrev pub AreTablesOf : Tables → Spec → ℕ → ℕ → Type 0
AreTablesOf t spec d root =
    (j v : ℕ) (l : Shape) (ls : List Shape) → drop j (shapes spec.arch) ≡ l ∷ ls → v < root_span (shapes spec.arch)
    → ((n : ℕ) × IsTableFor spec root (l ∷ ls) v n)
    ↔ ((w : ℕ) × (read write : Bool) × MapsPage t d w read write × (w / span l ≡ v / span l))
