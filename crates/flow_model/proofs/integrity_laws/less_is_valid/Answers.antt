use Rattle.flow_model.proofs.Lessening.{less_valid}
use Rattle.flow_model.proofs.integrity_laws.less_is_valid.Goals as goal

pub returns : goal.returns
returns c = less_valid
