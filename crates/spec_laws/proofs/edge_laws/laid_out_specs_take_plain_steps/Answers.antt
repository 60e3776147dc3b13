use Rattle.spec_laws.proofs.Common.{spec_of}
use Rattle.reach_laws.proofs.PlainSteps.{steps_plain}
use Rattle.spec_laws.proofs.Connections.{holds_plain}
use Rattle.spec_laws.proofs.edge_laws.laid_out_specs_take_plain_steps.Goals as goal

pub returns : goal.returns
returns c = λ t h. steps_plain (spec_of t) (holds_plain t h)
