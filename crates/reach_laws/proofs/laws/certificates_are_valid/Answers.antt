use Rattle.reach_laws.proofs.ValidCertificates.{valid}
use Rattle.reach_laws.proofs.laws.certificates_are_valid.Goals as goal

pub returns : goal.returns
returns c = λ t spec labels policy cert flat apart laid is_policy is_cert. valid t spec labels policy cert flat apart laid
    is_policy is_cert
