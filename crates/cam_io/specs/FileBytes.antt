-- All bytes of a file, where they stand: in the files that lend them, or by themselves.
use Rattle.std.specs.Option.{unwrap_or}
use Rattle.std.specs.Prelude.{ℕ, List, [], Option, Result, Ok, Err}
use Rattle.cam_io.specs.declared.file_bytes.FileBytes.{FileBytes}
use Rattle.cam_io.specs.declared.file_bytes.FileBytes.TheVariants.{Kept, Read}

-- the bytes, where the files lend these under the name
abbrev pub bytes_in : FileBytes → Option (List ℕ) → List ℕ
bytes_in Kept lent = unwrap_or lent []
bytes_in (Read bytes) lent = bytes

-- an answer that has the bytes themselves
abbrev pub with_bytes : {E : Type 0} → Result FileBytes E → Option (List ℕ) → Result (List ℕ) E
with_bytes (Ok bytes) lent = Ok (bytes_in bytes lent)
with_bytes (Err e) lent = Err e
