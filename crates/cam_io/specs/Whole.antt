-- The answer of a read of a whole file with a limit, by cases that exclude each other: absent exactly where there is no
-- such file, too long exactly where it has more bytes than the limit, and else its bytes. Want of memory and read faults
-- may come in place of each.
use Rattle.std.specs.Prelude.{◌≡◌, ◌<◌, ℕ, List, length, Option, None, Some, Result, Ok, Err}
use Rattle.cam_io.specs.declared.whole.WholeError.{WholeError}
use Rattle.cam_io.specs.declared.whole.WholeError.TheVariants as E

abbrev pub IsWhole : Option (List ℕ) → ℕ → Result (List ℕ) WholeError → Type 0
IsWhole file limit (Ok bytes) = file ≡ Some bytes
IsWhole file limit (Err E.Absent) = file ≡ None
IsWhole file limit (Err E.TooLong) = (bytes : List ℕ) × (file ≡ Some bytes) × (limit < length bytes)
IsWhole file limit (Err E.ReadFault) = Unit {0}
IsWhole file limit (Err E.NoMemory) = Unit {0}
