use Rattle.reach_laws.proofs.FirstSteps.{call_reached}
use Rattle.reach_laws.proofs.step_laws.calls_are_reached.Goals as goal

pub returns : goal.returns
returns c = call_reached
