-- A grammar in which no line stands within itself.
use Rattle.std.specs.Prelude.{ℕ, []}
use Rattle.cam_base.specs.Form.{Form, One, As}

-- a line that no token begins and nothing spells, for the place of the line that may stand within itself
abbrev pub never : {T : Type 0} → Form T (Unit {0}) (Unit {0})
never = As (λ t. tt) (One [])
