-- A spec that is read keeps what every spec keeps.
use Rattle.capdl_read.proofs.Common.{Err, IfOk, IsKept, IsRead, List, Ok, Refused, Result, Spec, TextFault, ℕ}
use Rattle.capdl_read.proofs.Kept.{kept_text}

pub read_kept : (bytes : List ℕ) (result : Result Spec (Refused TextFault)) → IsRead bytes result → IfOk result IsKept
read_kept bytes (Ok spec) text = kept_text bytes spec text
read_kept bytes (Err refused) fault = tt
