use Rattle.spec_laws.proofs.HavingImages.{programs_have_images}
use Rattle.spec_laws.proofs.bound_laws.programs_have_images.Goals as goal

pub returns : goal.returns
returns c = programs_have_images
