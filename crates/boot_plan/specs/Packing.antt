-- The packing of blocks. Laid end to end, the greatest first, blocks have offsets, and so have regions.
use Rattle.std.specs.Prelude.{◌≡◌, ◌<◌, ◌≤◌, ℕ, ◌+◌, ◌-◌, ◌^◌, ◌==◌, nat_lt, if◌then◌else◌, List, [], ◌∷◌, length, take, slice_index_or, slice_set, Option, Some, None}
use Rattle.std.specs.List.{slice_index, sum_by}
use Rattle.std.specs.List.Sorted.{IsNonDecreasingBy, IsPermutation}
use Rattle.boot_plan.specs.Rooms.{had, needed, rank, room_bytes}
use Rattle.boot_plan.specs.declared.need.Need.{Need}
use Rattle.boot_plan.specs.declared.need.Need.TheVariants.{Nothing, DevicePage, Block}
use Rattle.boot_plan.specs.declared.pack.Rooms.{Rooms}
use Rattle.boot_plan.specs.declared.untyped.Untyped.{Untyped}

-- the address at an offset of the regions that are no device's
abbrev pub address : List Untyped → ℕ → ℕ
address [] offset = 0
address (r ∷ rs) offset = if nat_lt offset (room_bytes 0 r) then r.paddr + offset else address rs (offset - room_bytes 0 r)

-- where the blocks of each size begin, once the blocks in front of them are laid
abbrev pub place_of : List Untyped → List ℕ → Need → Option ℕ
place_of rooms starts Nothing = None
place_of rooms starts (DevicePage paddr) = Some paddr
place_of rooms starts (Block bits) = Some (address rooms (slice_index starts bits))

abbrev pub starts_behind : List ℕ → Need → List ℕ
starts_behind starts (Block bits) = slice_set starts bits (slice_index starts bits + 2 ^ bits)
starts_behind starts _ = starts

abbrev pub packed : List Untyped → List ℕ → List Need → List (Option ℕ)
packed rooms starts [] = []
packed rooms starts (n ∷ ns) = place_of rooms starts n ∷ packed rooms (starts_behind starts n) ns

abbrev pub IsInOrder : List Untyped → Type 0
IsInOrder rs = IsNonDecreasingBy rank rs

-- the offset at which each region begins
pub record AreBases (rs : List Untyped) (bases : List ℕ) : Type 0 where
  pub count : length bases ≡ length rs
  pub each : (k : ℕ) → k < length rs → slice_index bases k ≡ had 0 (take k rs)

pub record AreRooms (rs : List Untyped) (rooms : Rooms) : Type 0 where
  pub permutation : IsPermutation rs rooms.regions.items
  pub order : IsInOrder rooms.regions.items
  pub bases : AreBases rooms.regions.items rooms.bases.items

-- the region at a place has the offset
pub record HasOffset (rs : List Untyped) (bases : List ℕ) (offset k : ℕ) : Type 0 where
  pub within : k < length rs
  pub low : slice_index bases k ≤ offset
  pub high : (d : Untyped) → offset < slice_index bases k + room_bytes 0 (slice_index_or rs k d)
  pub is : (d : Untyped) → address rs offset ≡ (slice_index_or rs k d).paddr + (offset - slice_index bases k)

-- for each size, the offset behind all greater blocks
pub record AreStarts (ns : List Need) (starts : List ℕ) : Type 0 where
  pub count : length starts ≡ 21
  pub each : (bits : ℕ) → bits ≤ 20 → slice_index starts bits ≡ needed (bits + 1) ns

-- the bytes of the blocks of just so many bits
abbrev pub exact_bytes : ℕ → Need → ℕ
exact_bytes bits (Block b) = if bits == b then 2 ^ b else 0
exact_bytes bits _ = 0

abbrev pub needed_at : ℕ → List Need → ℕ
needed_at bits = sum_by (exact_bytes bits)

-- the block of a need ends within the regions
abbrev pub FitsAt : List Untyped → List ℕ → Need → Type 0
FitsAt rooms starts (Block bits) = slice_index starts bits + 2 ^ bits ≤ had 0 rooms
FitsAt rooms starts _ = Unit {0}

-- all blocks end within the regions
pub record AllFit (rooms : List Untyped) (starts : List ℕ) (ns : List Need) : Type 0 where
  pub count : length starts ≡ 21
  pub each : (bits : ℕ) → bits ≤ 20 → slice_index starts bits + needed_at bits ns ≤ had 0 rooms
