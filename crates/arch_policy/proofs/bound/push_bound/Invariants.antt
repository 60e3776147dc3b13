use Rattle.arch_policy.proofs.Common.{Adds, length}
use Rattle.arch_policy.proofs.Bounding.{Among}
use Rattle.arch_policy.proofs.bound.push_bound.Given as goal

abbrev pub invariant-loop-handle : goal.invariant-loop-handle
invariant-loop-handle l = Adds (Among l.handles l.signals (length l.yielded)) l.fn.edges l.edges
