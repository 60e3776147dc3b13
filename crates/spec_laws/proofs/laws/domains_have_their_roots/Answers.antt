use Rattle.spec_laws.proofs.Roots.{roots_are}
use Rattle.spec_laws.proofs.laws.domains_have_their_roots.Goals as goal

pub returns : goal.returns
returns c = roots_are
