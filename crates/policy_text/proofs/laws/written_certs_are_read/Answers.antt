use Rattle.policy_text.proofs.ReadBack.{cert_back}
use Rattle.policy_text.proofs.laws.written_certs_are_read.Goals as goal

pub returns : goal.returns
returns c = cert_back
