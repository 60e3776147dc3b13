-- What parsing a part of a file answers.
use Rattle.std.specs.Prelude.{◌≡◌, ℕ, List, drop, Result, Err}
use Rattle.cam_base.specs.declared.error.Refused.{Refused}
use Rattle.cam_base.specs.declared.error.Refused.TheVariants as refusals
use Rattle.cam_base.specs.declared.place.Fault.{Fault}
use Rattle.cam_base.specs.declared.token.Token.{Token}
use Rattle.cam_base.specs.Refusal.{IsPartRead}
use Rattle.adl_ast.specs.Codes.{token_code}
use Rattle.adl_ast.specs.Forms.{Rule, nested_line}
use Rattle.adl_ast.specs.Seeing.{see}
use Rattle.adl_ast.specs.Spelling.{limit}
use Rattle.adl_parse.specs.Faults.{fault_of}

-- The tree is spelled by the tokens from the position at up to the position that is answered; or the fault stands where
-- the tokens from at on stop being those of the part; or memory ran out.
abbrev pub IsPartAt : {A : Type 0} → Rule A → List ℕ → List Token → ℕ → Result (A × ℕ) (Refused Fault) → Type 0
IsPartAt f bytes tokens at result = IsPartRead token_code nested_line f limit (drop at (see bytes tokens)) (fault_of bytes tokens)
    (λ x. (x.0, drop x.1 (see bytes tokens))) result

-- Parsing a part has one fault at most.
abbrev pub FaultIsOne : {A : Type 0} → Rule A → Type 0
FaultIsOne f = (bytes : List ℕ) (tokens : List Token) (at : ℕ) (x y : Fault) → IsPartAt f bytes tokens at (Err (refusals.Fault x))
    → IsPartAt f bytes tokens at (Err (refusals.Fault y)) → x ≡ y
