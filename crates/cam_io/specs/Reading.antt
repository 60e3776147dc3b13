-- What a read answers, and what it leaves as it was.
use Rattle.std.specs.FinMap.{get}
use Rattle.std.specs.Option.{option_map}
use Rattle.std.specs.Prelude.{◌≡◌, ◌<◌, ◌≤◌, ℕ, ◌+◌, List, length, take, drop, Option, None, Some, Result, Ok, Err}
use Rattle.cam_io.specs.Causes.{NoneFell}
use Rattle.cam_io.specs.Contents.{Contents}
use Rattle.cam_base.specs.declared.error.Refused.{Refused}
use Rattle.cam_base.specs.declared.error.Refused.TheVariants as refused
use Rattle.cam_io.specs.declared.files.Failed.{Failed}
use Rattle.cam_io.specs.declared.files.Got.{Got}
use Rattle.cam_io.specs.declared.files.Got.TheVariants.{Absent, End, Bytes}

-- a read that took bytes took from 1 to so many
abbrev pub TookAtMost : ℕ → Got → Type 0
TookAtMost room Absent = Unit {0}
TookAtMost room End = Unit {0}
TookAtMost room (Bytes n) = (0 < n) × (n ≤ room)

-- the answer of a read of this file from a place on, with the buffer behind it
abbrev pub IsGot : Option (List ℕ) → ℕ → List ℕ → Got → Type 0
IsGot file at buffer Absent = file ≡ None
IsGot file at buffer End = (bytes : List ℕ) × (file ≡ Some bytes) × (length bytes ≤ at)
IsGot file at buffer (Bytes n) = (bytes : List ℕ) × (file ≡ Some bytes) × (at + n ≤ length bytes)
    × (take n buffer ≡ take n (drop at bytes))

-- a read failed, and not for want of memory
abbrev pub IsFailure : {A : Type 0} → Result A (Refused Failed) → Type 0
IsFailure (Ok a) = ⊥
IsFailure (Err (refused.Fault failed)) = Unit {0}
IsFailure (Err refused.NoMemory) = ⊥

-- it holds of all contents that are told
abbrev pub InAll : (Contents → Type 0) → (Contents → Type 0) → Type 0
InAll told holds = (m : Contents) → told m → holds m

-- contents that are told now were told before, so all that held of what was told still holds; and no count falls
pub record KeepsFiles {F : Type 0} (told : F → Contents → Type 0) (faults : F → List ℕ → ℕ) (before now : F) : Type 0 where
  pub told_still : InAll (told now) (told before)
  pub later : NoneFell (faults before) (faults now)

-- the file of a name has the same bytes in both contents, as far as so many go, or is in neither
abbrev pub HaveSameFront : List ℕ → ℕ → Contents → Contents → Type 0
HaveSameFront name count m n = option_map (take count) (get m name) ≡ option_map (take count) (get n name)

-- What a call learns of the contents is no more than this: contents that were told before it, and are alike in this to some that
-- are told after it, are told after it too.
abbrev pub LearnsOnly : {F : Type 0} → (F → Contents → Type 0) → (Contents → Contents → Type 0) → F → F → Type 0
LearnsOnly told Alike before now = (m n : Contents) → told now m → told before n → Alike m n → told now n
