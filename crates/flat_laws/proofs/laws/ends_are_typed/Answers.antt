use Rattle.flat_laws.proofs.AreTyped.{ends_typed}
use Rattle.flat_laws.proofs.laws.ends_are_typed.Goals as goal

pub returns : goal.returns
returns c = ends_typed
