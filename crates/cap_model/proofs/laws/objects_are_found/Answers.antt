use Rattle.cap_model.proofs.laws.objects_are_found.Goals as goal
use Rattle.cap_model.proofs.Found.{found}

pub returns : goal.returns
returns c = found
