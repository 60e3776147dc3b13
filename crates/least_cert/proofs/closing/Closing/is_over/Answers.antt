use Rattle.least_cert.proofs.Common.{Closure, IsSorted, subst}
use Rattle.least_cert.proofs.closing.Closing.is_over.Goals as goal

pub returns-clause-sorted : goal.returns-clause-sorted
returns-clause-sorted c = subst (λ (m : Closure). IsSorted m.known) c.self.view_is c.len.ensures.sorted
