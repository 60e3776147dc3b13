use Rattle.cap_model.proofs.laws.no_capability_confers_reply.Goals as goal
use Rattle.cap_model.proofs.Conferring.{not_reply}

pub returns : goal.returns
returns c = not_reply
