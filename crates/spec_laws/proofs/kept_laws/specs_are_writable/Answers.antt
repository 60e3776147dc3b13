use Rattle.spec_laws.proofs.Writing.{spec_writable}
use Rattle.spec_laws.proofs.kept_laws.specs_are_writable.Goals as goal

pub returns : goal.returns
returns c = spec_writable
