use Rattle.adl_flatten.proofs.Placing.{connections_placed, target_step, template_leaves_placed}
use Rattle.adl_flatten.proofs.template_laws.templates_are_placed.Goals as goal

pub returns : goal.returns
returns c = record { leaves = template_leaves_placed; connections = connections_placed; targets = target_step }
