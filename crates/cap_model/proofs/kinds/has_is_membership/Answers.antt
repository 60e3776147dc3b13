use Rattle.cap_model.proofs.TableMembers.{has-contains}
use Rattle.cap_model.proofs.kinds.has_is_membership.Goals as goal

pub returns : goal.returns
returns c = has-contains
