-- What the reader of files gives is what parsing a file answers.
use Rattle.adl_parse.proofs.Common.{Err, Fails, Fault, File, IsFileIn, IsRefusalOf, List, Ok, ReadError, Refused, Token, file_decides, file_line, file_stops, limit, nested_is, nested_line, opens, reads, see, token_code, whole, ℕ, ◌≡◌}
use Rattle.cam_base.specs.declared.error.Refused.TheVariants as refusals
use Rattle.cam_base.specs.declared.grammar_error.ReadError.TheVariants as errors
use Rattle.cam_base.proofs.Theorems.{whole_found}

module _ (bytes : List ℕ) (tokens : List Token) where
  pub file_ok : (x : File) → whole (reads file_line) (see bytes tokens) ≡ Ok x → IsFileIn bytes tokens (Ok x)
  file_ok x e = whole_found token_code nested_line opens nested_is file_line file_decides limit (see bytes tokens) x e

  pub file_refused : (e : ReadError) (r : Refused Fault) → Fails e (whole (reads file_line) (see bytes tokens))
      → IsRefusalOf bytes tokens e r → IsFileIn bytes tokens (Err r)
  file_refused e refusals.NoMemory h q = tt
  file_refused errors.NoMemory (refusals.Fault g) h q = absurd q
  file_refused (errors.Stop stop) (refusals.Fault g) h q = (
    stop.why,
    stop.left,
    q,
    file_stops token_code nested_line opens nested_is file_line file_decides limit (see bytes tokens)
        stop.why stop.left h,
  )
