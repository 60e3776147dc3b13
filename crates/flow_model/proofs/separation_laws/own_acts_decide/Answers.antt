use Rattle.flow_model.proofs.Separated.{own_decide}
use Rattle.flow_model.proofs.separation_laws.own_acts_decide.Goals as goal

pub returns : goal.returns
returns c = own_decide
