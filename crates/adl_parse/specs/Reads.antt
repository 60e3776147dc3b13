-- What a parsing function read, and what it left, against what the reader of its form gives.
use Rattle.std.specs.Prelude.{◌≡◌, List, Result, Ok, Err}
use Rattle.cam_base.specs.Gives.{Fails}
use Rattle.cam_base.specs.declared.grammar_error.ReadError.{ReadError}
use Rattle.cam_base.specs.declared.grammar_error.Stop.{Stop}

-- The value and the tokens that are left are exactly what the reader gives, unless memory ran out. What is left behind an
-- error is left open.
abbrev pub Reads : {A T : Type 0} → Result A ReadError → List T → Result (A × List T) Stop → Type 0
Reads (Ok x) left given = given ≡ Ok (x, left)
Reads (Err e) left given = Fails e given
