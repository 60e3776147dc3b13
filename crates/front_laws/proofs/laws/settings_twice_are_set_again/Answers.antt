use Rattle.front_laws.proofs.SetAgain.{from_twice, in_twice}
use Rattle.front_laws.proofs.laws.settings_twice_are_set_again.Goals as goal

pub returns : goal.returns
returns c = λ h f. (from_twice h f, in_twice h f)
