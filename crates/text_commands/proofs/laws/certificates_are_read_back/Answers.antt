use Rattle.text_commands.proofs.CertBack.{certificate_back, certificate_decides}
use Rattle.text_commands.proofs.laws.certificates_are_read_back.Goals as goal

pub returns-clause-back : goal.returns-clause-back
returns-clause-back c m old new later last cdl policy cert least allowed certified held read =
    certificate_back m old new later last cdl policy least cert allowed certified read held

pub returns-clause-decides : goal.returns-clause-decides
returns-clause-decides c m old new later last cdl policy cert other least names certified held checked =
    certificate_decides m old new later last cdl policy least cert other names certified held checked
