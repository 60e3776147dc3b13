use Rattle.spec_laws.proofs.Common.{policy_tables, spec_of}
use Rattle.reach_laws.proofs.ValidCertificates.{valid}
use Rattle.spec_laws.proofs.Connections.{laid_out}
use Rattle.spec_laws.proofs.Whose.{labels}
use Rattle.spec_laws.proofs.edge_laws.certificates_are_valid.Goals as goal

pub returns : goal.returns
returns c = λ t h apart kept policy cert is_policy is_cert.
    valid (policy_tables t) (spec_of t) (labels t) policy cert h.flat apart (laid_out t h apart kept) is_policy is_cert
