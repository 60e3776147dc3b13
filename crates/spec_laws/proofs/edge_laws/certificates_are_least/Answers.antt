use Rattle.spec_laws.proofs.Common.{policy_tables, spec_of}
use Rattle.reach_laws.proofs.LeastCertificates.{least}
use Rattle.spec_laws.proofs.Connections.{laid_out}
use Rattle.spec_laws.proofs.Whose.{labels}
use Rattle.spec_laws.proofs.edge_laws.certificates_are_least.Goals as goal

pub returns : goal.returns
returns c = λ t h apart kept cert is_cert. least (policy_tables t) (spec_of t) (labels t) cert h.flat apart
    (laid_out t h apart kept) is_cert
