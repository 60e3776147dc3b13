use Rattle.reach_laws.proofs.LeastCertificates.{least}
use Rattle.reach_laws.proofs.laws.certificates_are_least.Goals as goal

pub returns : goal.returns
returns c = least
