use Rattle.spec_laws.proofs.Threading.{threads_hold}
use Rattle.spec_laws.proofs.laws.threads_are_those_of_the_system.Goals as goal

pub returns : goal.returns
returns c = threads_hold
