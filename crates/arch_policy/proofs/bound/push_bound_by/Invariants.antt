use Rattle.arch_policy.proofs.Common.{Adds}
use Rattle.arch_policy.proofs.Bounding.{Until}
use Rattle.arch_policy.proofs.bound.push_bound_by.Given as goal

abbrev pub invariant-loop-at : goal.invariant-loop-at
invariant-loop-at l = Adds (Until l.handle l.signals l.first l.at) l.fn.edges l.edges
