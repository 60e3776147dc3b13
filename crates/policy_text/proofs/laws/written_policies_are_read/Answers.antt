use Rattle.policy_text.proofs.ReadBack.{policy_back}
use Rattle.policy_text.proofs.laws.written_policies_are_read.Goals as goal

pub returns : goal.returns
returns c = policy_back
