use Rattle.adl_types.proofs.Typed.{well_typed}
use Rattle.adl_types.proofs.laws.ends_are_typed.Goals as goal

pub returns : goal.returns
returns c = well_typed
