-- What a parsing function returned, against what the reader of its form gives.
use Rattle.std.specs.Prelude.{◌≡◌, Result, Ok, Err}
use Rattle.cam_base.specs.declared.grammar_error.Stop.{Stop}
use Rattle.cam_base.specs.declared.grammar_error.ReadError.{ReadError}
use Rattle.cam_base.specs.declared.grammar_error.ReadError.TheVariants as errors

-- The error is the reader's, or want of memory, which may come at any call.
abbrev pub Fails : {Y : Type 0} → ReadError → Result Y Stop → Type 0
Fails errors.NoMemory given = Unit {0}
Fails (errors.Stop stop) given = given ≡ Err stop

-- The result, seen by view, is exactly what the reader gives, unless memory ran out.
abbrev pub Gives : {X Y : Type 0} → (X → Y) → Result X ReadError → Result Y Stop → Type 0
Gives view (Ok x) given = given ≡ Ok (view x)
Gives view (Err e) given = Fails e given
