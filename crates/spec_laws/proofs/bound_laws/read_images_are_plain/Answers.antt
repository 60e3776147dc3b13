use Rattle.spec_laws.proofs.ReadImages.{read_images_are_plain}
use Rattle.spec_laws.proofs.bound_laws.read_images_are_plain.Goals as goal

pub returns : goal.returns
returns c = read_images_are_plain
