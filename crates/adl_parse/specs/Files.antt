-- What parsing a whole file answers.
use Rattle.std.specs.Prelude.{ℕ, List, Result, Err}
use Rattle.cam_base.specs.declared.error.Refused.{Refused}
use Rattle.cam_base.specs.declared.error.Refused.TheVariants as refusals
use Rattle.cam_base.specs.declared.place.Fault.{Fault}
use Rattle.cam_base.specs.declared.token.Token.{Token}
use Rattle.cam_base.specs.Refusal.{IsFileRead}
use Rattle.adl_ast.specs.declared.file.File.{File}
use Rattle.adl_ast.specs.Codes.{token_code}
use Rattle.adl_ast.specs.Forms.{nested_line, file_line}
use Rattle.adl_ast.specs.Seeing.{see}
use Rattle.adl_ast.specs.Spelling.{limit}
use Rattle.adl_parse.specs.Faults.{fault_of}

-- The file is spelled by the tokens; or the fault stands where they stop being those of a file; or memory ran out.
abbrev pub IsFileIn : List ℕ → List Token → Result File (Refused Fault) → Type 0
IsFileIn bytes tokens result = IsFileRead token_code nested_line file_line limit (see bytes tokens) (fault_of bytes tokens)
    (λ x. x) result

-- the answer isn't want of memory
abbrev pub IsSettled : Result File (Refused Fault) → Type 0
IsSettled (Err refusals.NoMemory) = ⊥
IsSettled _ = Unit {0}
