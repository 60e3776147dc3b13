-- Room. There is room where, for each number of bits, the blocks of at least so many bits need no more bytes than the regions
-- of at least so many bits have that are no device's.
use Rattle.std.specs.Prelude.{◌≡◌, ◌<◌, ◌≤◌, ℕ, ◌^◌, ◌-◌, leb, not, ◌&&◌, if◌then◌else◌, List, Option, Some, None}
use Rattle.std.specs.List.{sum_by}
use Rattle.boot_plan.specs.declared.need.Need.{Need}
use Rattle.boot_plan.specs.declared.need.Need.TheVariants.{Nothing, DevicePage, Block}
use Rattle.boot_plan.specs.declared.plan_refusal.PlanRefusal.{PlanRefusal}
use Rattle.boot_plan.specs.declared.plan_refusal.PlanRefusal.TheVariants.{NoRoom}
use Rattle.boot_plan.specs.declared.untyped.Untyped.{Untyped}

abbrev pub block_bytes : ℕ → Need → ℕ
block_bytes least Nothing = 0
block_bytes least (DevicePage paddr) = 0
block_bytes least (Block bits) = if leb least bits then 2 ^ bits else 0

-- the bytes that blocks of at least so many bits need
abbrev pub needed : ℕ → List Need → ℕ
needed least = sum_by (block_bytes least)

abbrev pub room_bytes : ℕ → Untyped → ℕ
room_bytes least r = if not r.device && leb least r.bits then 2 ^ r.bits else 0

-- the bytes that regions of at least so many bits have
abbrev pub had : ℕ → List Untyped → ℕ
had least = sum_by (room_bytes least)

-- the order in which regions are filled: the greatest first, those of devices last
abbrev pub rank : Untyped → ℕ
rank r = if r.device then 48 else 47 - r.bits

abbrev pub HasRoom : List Need → List Untyped → Type 0
HasRoom ns rs = (least : ℕ) → needed least ns ≤ had least rs

-- the greatest number of bits for which there is no room, with what is needed and had
pub record LacksRoom (ns : List Need) (rs : List Untyped) (bits need have : ℕ) : Type 0 where
  pub needs : need ≡ needed bits ns
  pub has : have ≡ had bits rs
  pub lacks : have < need
  pub greatest : (least : ℕ) → bits < least → needed least ns ≤ had least rs

-- whether room lacks
abbrev pub IsRoomTold : List Need → List Untyped → Option PlanRefusal → Type 0
IsRoomTold ns rs None = HasRoom ns rs
IsRoomTold ns rs (Some (NoRoom bits need have)) = LacksRoom ns rs bits need have
IsRoomTold ns rs (Some _) = ⊥
