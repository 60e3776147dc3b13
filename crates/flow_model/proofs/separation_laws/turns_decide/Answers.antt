use Rattle.flow_model.proofs.Obeying.{programs_alike}
use Rattle.flow_model.proofs.separation_laws.turns_decide.Goals as goal

pub returns : goal.returns
returns c = programs_alike
