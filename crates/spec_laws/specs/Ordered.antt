-- What stands before what. Page tables of one level stand by domain, and in a domain by address. So do the frames that domains
-- have of their own. Behind all of those stand the frames of shared connections, by connection and page, and behind these the
-- registers of devices, by the first connection to each and page. No page table stands that no page needs. Page tables of each
-- level, and frames, have numbers that rise as they stand.
use Rattle.std.specs.Prelude.{◌≡◌, ◌⊎◌, ◌<◌, ◌≤◌, ℕ, ◌+◌, ◌/◌, List, ◌∷◌, drop, Option, Some, slice_get}
use Rattle.spec_laws.specs.Below.{Cap, Domain, Fill, FlatConnection, Frame, Level, Mmio, Pages, Shape, SharedMemory, Spec, Tables, level_series, object_at, root_span, shapes, span}
use Rattle.system_spec.specs.declared.series.Series.TheVariants as series
use Rattle.spec_laws.specs.Framed.{IsOwn, OneDevice, ShowsMemory}
use Rattle.spec_laws.specs.Slotted.{IsNamed}
use Rattle.spec_laws.specs.Spaced.{IsAt, IsTableFor}

-- the first pair comes before the second: by its first number, and where both have the same by the other
abbrev pub IsBefore : ℕ → ℕ → ℕ → ℕ → Type 0
IsBefore d a e b = (d < e) ⊎ ((d ≡ e) × (a < b))

-- ---- page tables

-- the object at the place is the page table of some level for some address, in the space of some domain
pub record IsTableOfSpace (t : Tables) (spec : Spec) (root : ℕ → ℕ) (place : ℕ) : Type 0 where
  pub domain : ℕ
  pub leaves : Domain
  pub here : slice_get t.flat.domains domain ≡ Some leaves
  pub level : ℕ
  pub lowest : Shape
  pub higher : List Shape
  pub levels : drop level (shapes spec.arch) ≡ lowest ∷ higher
  pub v : ℕ
  pub within : v < root_span (shapes spec.arch)
  pub number : ℕ
  pub table : IsTableFor spec (root domain) (lowest ∷ higher) v number
  pub at : place ≡ root domain + number

-- each level has numbers that name its page tables: they rise from 0 as these stand, and none is left out
pub record AreTablesNumbered (spec : Spec) : Type 0 where
  pub number : Level → ℕ → ℕ
  pub named : (place : ℕ) (l : Level) (slots : List (ℕ × Cap)) → object_at spec place ≡ Some (Pages l slots)
      → IsNamed spec place (level_series l) (number l place)
  pub rise : (p q : ℕ) (l : Level) (slots more : List (ℕ × Cap)) → object_at spec p ≡ Some (Pages l slots)
      → object_at spec q ≡ Some (Pages l more) → p < q → number l p < number l q
  pub from_0 : (p n : ℕ) (l : Level) (slots : List (ℕ × Cap)) → object_at spec p ≡ Some (Pages l slots) → n < number l p
      → (q : ℕ) × (more : List (ℕ × Cap)) × (object_at spec q ≡ Some (Pages l more)) × (number l q ≡ n)

pub record AreTablesInOrder (t : Tables) (spec : Spec) (root : ℕ → ℕ) : Type 0 where
  pub all : (place : ℕ) (level : Level) (slots : List (ℕ × Cap)) → object_at spec place ≡ Some (Pages level slots)
      → IsTableOfSpace t spec root place
  pub order : (d e v w j m n : ℕ) (x y : Domain) (l : Shape) (ls : List Shape)
      → slice_get t.flat.domains d ≡ Some x → slice_get t.flat.domains e ≡ Some y → drop j (shapes spec.arch) ≡ l ∷ ls
      → v < root_span (shapes spec.arch) → w < root_span (shapes spec.arch)
      → IsTableFor spec (root d) (l ∷ ls) v m → IsTableFor spec (root e) (l ∷ ls) w n
      → IsBefore d (v / span l) e (w / span l) → root d + m < root e + n
  pub numbered : AreTablesNumbered spec

-- ---- frames

-- the frame at the place is one that the domain has of its own, at address v
pub record IsOwnAt (t : Tables) (spec : Spec) (root : ℕ → ℕ) (d v place : ℕ) : Type 0 where
  pub leaves : Domain
  pub here : slice_get t.flat.domains d ≡ Some leaves
  pub within : v < root_span (shapes spec.arch)
  pub cap : Cap
  pub mapped : IsAt spec (root d) v cap
  pub names : cap.object ≡ place
  pub own : IsOwn t spec root place

-- the frame at the place is page j of shared connection k
pub record IsSharedAt (t : Tables) (spec : Spec) (root : ℕ → ℕ) (k j place : ℕ) : Type 0 where
  pub connection : FlatConnection
  pub here : slice_get t.flat.connections k ≡ Some connection
  pub is_shared : connection.connector ≡ SharedMemory
  pub domain : ℕ
  pub shows : ShowsMemory t spec root domain k j place

-- the frame at the place is page j of the registers of a device to which connection k is the first
pub record IsRegisterAt (t : Tables) (spec : Spec) (root : ℕ → ℕ) (k j place : ℕ) : Type 0 where
  pub connection : FlatConnection
  pub here : slice_get t.flat.connections k ≡ Some connection
  pub is_device : connection.connector ≡ Mmio
  pub first : (l : ℕ) (other : FlatConnection) → slice_get t.flat.connections l ≡ Some other → OneDevice connection other → k ≤ l
  pub domain : ℕ
  pub shows : ShowsMemory t spec root domain k j place

-- frames stand behind one another, and are numbered from 0 as they stand
pub record AreFramesNumbered (spec : Spec) : Type 0 where
  pub first : ℕ
  pub count : ℕ
  pub each : (n : ℕ) → n < count → IsNamed spec (first + n) series.Frame n
  pub all : (place : ℕ) (paddr : Option ℕ) (fill : Option Fill) → object_at spec place ≡ Some (Frame paddr fill)
      → (n : ℕ) × (n < count) × (place ≡ first + n)

pub record AreFramesInOrder (t : Tables) (spec : Spec) (root : ℕ → ℕ) : Type 0 where
  pub own : (d v m e w n : ℕ) → IsOwnAt t spec root d v m → IsOwnAt t spec root e w n → IsBefore d (v / 4096) e (w / 4096) → m < n
  pub own_first : (d v m k j n : ℕ) → IsOwnAt t spec root d v m → IsSharedAt t spec root k j n ⊎ IsRegisterAt t spec root k j n
      → m < n
  pub shared : (k i m l j n : ℕ) → IsSharedAt t spec root k i m → IsSharedAt t spec root l j n → IsBefore k i l j → m < n
  pub shared_first : (k i m l j n : ℕ) → IsSharedAt t spec root k i m → IsRegisterAt t spec root l j n → m < n
  pub registers : (k i m l j n : ℕ) → IsRegisterAt t spec root k i m → IsRegisterAt t spec root l j n → IsBefore k i l j → m < n
  pub numbered : AreFramesNumbered spec
