use Rattle.cap_model.proofs.laws.lessened_confers_no_more.Goals as goal
use Rattle.cap_model.proofs.Conferring.{lessened_confers}

pub returns : goal.returns
returns c = lessened_confers
