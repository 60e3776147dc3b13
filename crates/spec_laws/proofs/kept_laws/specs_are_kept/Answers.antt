use Rattle.spec_laws.proofs.Keeping.{spec_kept}
use Rattle.spec_laws.proofs.kept_laws.specs_are_kept.Goals as goal

pub returns : goal.returns
returns c = spec_kept
