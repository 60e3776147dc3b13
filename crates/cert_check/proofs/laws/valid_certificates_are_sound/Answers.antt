use Rattle.cert_check.proofs.Keeps.{runs_stay}
use Rattle.cert_check.proofs.laws.valid_certificates_are_sound.Goals as goal

pub returns : goal.returns
returns c = λ spec labels policy cert v l a m reaches differ. runs_stay spec labels policy cert v l a m reaches differ
