use Rattle.camkes_tool.proofs.CertBack.{cert_read}
use Rattle.camkes_tool.proofs.PolicyBack.{policy_read}
use Rattle.camkes_tool.proofs.SpecBack.{spec_back}
use Rattle.camkes_tool.proofs.back_laws.texts_are_read_back.Goals as goal

pub returns : goal.returns
returns c = λ root contents b is.
    record { spec = spec_back root contents b is; policy = policy_read root contents b is; cert = cert_read root contents b is }
