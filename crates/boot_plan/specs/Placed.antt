-- A placement. Each object has a place where it needs one: a device's page at its own address, in one region of a device;
-- a block at a multiple of its size, in one region that is no device's. No two objects share a byte.
use Rattle.std.specs.Prelude.{◌≡◌, ◌≤◌, ◌⊎◌, ℕ, ◌+◌, ◌%◌, ◌^◌, Bool, true, false, List, [], ◌∷◌, Option, Some, None}
use Rattle.std.specs.List.{AllByRecursion}
use Rattle.boot_plan.specs.Needs.{bits_of}
use Rattle.boot_plan.specs.Regions.{region_end}
use Rattle.boot_plan.specs.declared.need.Need.{Need}
use Rattle.boot_plan.specs.declared.need.Need.TheVariants.{Nothing, DevicePage, Block}
use Rattle.boot_plan.specs.declared.untyped.Untyped.{Untyped}

-- 2^bits bytes from an address on
pub record Bytes : Type 0 where
  pub first : ℕ
  pub bits : ℕ

abbrev pub bytes_end : Bytes → ℕ
bytes_end b = b.first + 2 ^ b.bits

-- they lie in the region, which is a device's or not
pub record LieIn (device : Bool) (b : Bytes) (r : Untyped) : Type 0 where
  pub kind : r.device ≡ device
  pub low : r.paddr ≤ b.first
  pub high : bytes_end b ≤ region_end r

-- they lie in one of the regions
abbrev pub LieInOne : Bool → Bytes → List Untyped → Type 0
LieInOne device b [] = ⊥
LieInOne device b (r ∷ rs) = LieIn device b r ⊎ LieInOne device b rs

-- a place is that of a need
abbrev pub Suits : List Untyped → Need → Option ℕ → Type 0
Suits rs Nothing place = place ≡ None
Suits rs (DevicePage paddr) place = (place ≡ Some paddr) × LieInOne true (record { first = paddr; bits = 12 }) rs
Suits rs (Block bits) None = ⊥
Suits rs (Block bits) (Some first) = (first % 2 ^ bits ≡ 0) × LieInOne false (record { first = first; bits = bits }) rs

abbrev pub AllSuit : List Untyped → List Need → List (Option ℕ) → Type 0
AllSuit rs [] [] = Unit {0}
AllSuit rs [] (place ∷ places) = ⊥
AllSuit rs (n ∷ ns) [] = ⊥
AllSuit rs (n ∷ ns) (place ∷ places) = Suits rs n place × AllSuit rs ns places

-- the bytes of those that have a place
abbrev pub all_bytes : List Need → List (Option ℕ) → List Bytes
all_bytes (n ∷ ns) (Some first ∷ places) = record { first = first; bits = bits_of n } ∷ all_bytes ns places
all_bytes (n ∷ ns) (None ∷ places) = all_bytes ns places
all_bytes (n ∷ ns) [] = []
all_bytes [] places = []

-- one ends before the other begins
abbrev pub Apart : Bytes → Bytes → Type 0
Apart a b = (bytes_end a ≤ b.first) ⊎ (bytes_end b ≤ a.first)

abbrev pub AllApart : List Bytes → Type 0
AllApart [] = Unit {0}
AllApart (b ∷ bs) = AllByRecursion (Apart b) bs × AllApart bs

-- places for needs, one each
pub record Placed (ns : List Need) (rs : List Untyped) (places : List (Option ℕ)) : Type 0 where
  pub suit : AllSuit rs ns places
  pub apart : AllApart (all_bytes ns places)
