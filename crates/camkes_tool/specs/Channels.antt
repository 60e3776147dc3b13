-- What a command leaves as it was.
use Rattle.std.specs.Prelude.{◌≡◌, ℕ, List, Option, Some, None}
use Rattle.camkes_tool.specs.Below.{Sink}

abbrev pub at : Option (ℕ → List ℕ) → ℕ → Option (List ℕ)
at None channel = None
at (Some f) channel = Some (f channel)

-- the channel is begun or not, has its name, and holds what it held
pub record IsAsBefore (channel : ℕ) (old new : Sink) : Type 0 where
  pub begun : new.begun channel ≡ old.begun channel
  pub name : at new.names channel ≡ at old.names channel
  pub text : at new.written channel ≡ at old.written channel
