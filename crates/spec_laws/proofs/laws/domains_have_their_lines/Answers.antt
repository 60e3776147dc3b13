use Rattle.spec_laws.proofs.DomainLines.{domains_are}
use Rattle.spec_laws.proofs.laws.domains_have_their_lines.Goals as goal

pub returns : goal.returns
returns c = domains_are
