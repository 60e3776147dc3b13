use Rattle.authorities.proofs.AuthorityBits.{one_set}
use Rattle.authorities.proofs.laws.sets_are_their_members.Goals as goal

pub returns : goal.returns
returns c = one_set
