use Rattle.reach_laws.proofs.PlainSteps.{steps_plain}
use Rattle.reach_laws.proofs.step_laws.plain_steps_alone_are_legal.Goals as goal

pub returns : goal.returns
returns c = steps_plain
