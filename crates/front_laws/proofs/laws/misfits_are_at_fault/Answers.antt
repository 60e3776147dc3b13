use Rattle.front_laws.proofs.MisfitExports.{from_misfits, in_misfits}
use Rattle.front_laws.proofs.laws.misfits_are_at_fault.Goals as goal

pub returns : goal.returns
returns c = λ s f. (from_misfits s f, in_misfits s f)
