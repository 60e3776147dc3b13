use Rattle.reach_laws.proofs.FirstSteps.{bind_reached}
use Rattle.reach_laws.proofs.step_laws.binds_are_reached.Goals as goal

pub returns : goal.returns
returns c = bind_reached
