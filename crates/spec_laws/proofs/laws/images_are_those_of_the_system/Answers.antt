use Rattle.spec_laws.proofs.Images.{images_are}
use Rattle.spec_laws.proofs.laws.images_are_those_of_the_system.Goals as goal

pub returns : goal.returns
returns c = images_are
