use Rattle.vspace_layout.proofs.Laying.{laid}
use Rattle.vspace_layout.proofs.laws.spaces_are_laid_by_domain.Goals as goal

pub returns : goal.returns
returns c = laid
