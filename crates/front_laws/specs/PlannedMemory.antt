-- What a plan of memory is refused for, and what it promises: by addresses, objects and regions.
use Rattle.std.specs.Prelude.{◌≡◌, ◌<◌, ◌≤◌, ◌⊎◌, ℕ, ◌+◌, ◌^◌, true, false, List, slice_get, Option, Some}
use Rattle.boot_plan.specs.Needs.{bits_of}
use Rattle.boot_plan.specs.Placed.{LieIn}
use Rattle.boot_plan.specs.Regions.{region_end}
use Rattle.boot_plan.specs.declared.need.Need.{Need}
use Rattle.boot_plan.specs.declared.need.Need.TheVariants.{DevicePage, Block}
use Rattle.boot_plan.specs.declared.plan_refusal.PlanRefusal.{PlanRefusal}
use Rattle.boot_plan.specs.declared.plan_refusal.PlanRefusal.TheVariants.{NoDevice, SharedFrame}
use Rattle.boot_plan.specs.declared.untyped.Untyped.{Untyped}
use Rattle.cam_base.specs.Gather.{IsIn}

-- ---- regions that overlap

-- both regions have an address
pub record ShareAddress (r q : Untyped) : Type 0 where
  pub address : ℕ
  pub low : r.paddr ≤ address
  pub high : address < region_end r
  pub other_low : q.paddr ≤ address
  pub other_high : address < region_end q

-- regions number i and j, of which i comes first, have an address in common
pub record Overlap (rs : List Untyped) (i j : ℕ) : Type 0 where
  pub first : Untyped
  pub second : Untyped
  pub at_first : slice_get rs i ≡ Some first
  pub at_second : slice_get rs j ≡ Some second
  pub order : i < j
  pub shared : ShareAddress first second

-- these two, and no others of which the second, or of the same second the first, comes earlier
pub record IsFirstOverlap (rs : List Untyped) (i j : ℕ) : Type 0 where
  pub overlap : Overlap rs i j
  pub first : (k l : ℕ) → Overlap rs k l → (j < l) ⊎ ((l ≡ j) × (i ≤ k))

-- ---- pages of devices

-- object k needs the page of a device that begins at this address
abbrev pub NeedsPage : List Need → ℕ → ℕ → Type 0
NeedsPage ns k paddr = slice_get ns k ≡ Some (DevicePage paddr)

-- a region of a device has the page
pub record HasDevice (rs : List Untyped) (paddr : ℕ) : Type 0 where
  pub region : Untyped
  pub one : IsIn region rs
  pub lies : LieIn true (record { first = paddr; bits = 12 }) region

-- an object in front of object k needs the page too
pub record IsTaken (ns : List Need) (k paddr : ℕ) : Type 0 where
  pub earlier : ℕ
  pub before : earlier < k
  pub needs : NeedsPage ns earlier paddr

-- each object in front of object k that needs a page of a device has it, and has it alone
abbrev pub AreServed : List Untyped → List Need → ℕ → Type 0
AreServed rs ns k = (i paddr : ℕ) → i < k → NeedsPage ns i paddr → HasDevice rs paddr × (IsTaken ns i paddr → ⊥)

-- the first object that needs a page of no device, or one that is taken
pub data IsDeviceRefusal (rs : List Untyped) (ns : List Need) : PlanRefusal → Type 0 where
  no_device : (k paddr : ℕ) → NeedsPage ns k paddr → (HasDevice rs paddr → ⊥) → AreServed rs ns k
      → IsDeviceRefusal rs ns (NoDevice k)
  shared_frame : (k paddr : ℕ) → NeedsPage ns k paddr → HasDevice rs paddr → IsTaken ns k paddr → AreServed rs ns k
      → IsDeviceRefusal rs ns (SharedFrame k)

-- ---- placements

-- object k has the bytes from this address on, as many as it needs
pub record HasBytes (ns : List Need) (places : List (Option ℕ)) (k first : ℕ) : Type 0 where
  pub need : Need
  pub needed : slice_get ns k ≡ Some need
  pub placed : slice_get places k ≡ Some (Some first)

abbrev pub HasAddress : (ns : List Need) (places : List (Option ℕ)) (k first : ℕ) → HasBytes ns places k first → ℕ → Type 0
HasAddress ns places k first has address = (first ≤ address) × (address < first + 2 ^ bits_of has.need)

-- no address is one of two objects
abbrev pub AreApart : List Need → List (Option ℕ) → Type 0
AreApart ns places =
    (i j a b address : ℕ) (x : HasBytes ns places i a) (y : HasBytes ns places j b) → HasAddress ns places i a x address
    → HasAddress ns places j b y address → i ≡ j

-- a device's page has its own address, in one region of a device
abbrev pub AreDevicesPlaced : List Untyped → List Need → List (Option ℕ) → Type 0
AreDevicesPlaced rs ns places =
    (k paddr : ℕ) → NeedsPage ns k paddr → (slice_get places k ≡ Some (Some paddr)) × HasDevice rs paddr

-- a block has a place in one region that is no device's
abbrev pub AreBlocksPlaced : List Untyped → List Need → List (Option ℕ) → Type 0
AreBlocksPlaced rs ns places =
    (k bits : ℕ) → slice_get ns k ≡ Some (Block bits)
    → (first : ℕ) × (r : Untyped) × (slice_get places k ≡ Some (Some first)) × IsIn r rs
    × LieIn false (record { first = first; bits = bits }) r
