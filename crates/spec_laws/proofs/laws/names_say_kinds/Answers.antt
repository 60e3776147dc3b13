use Rattle.spec_laws.proofs.Kinding.{kinds_are}
use Rattle.spec_laws.proofs.laws.names_say_kinds.Goals as goal

pub returns : goal.returns
returns c = kinds_are
