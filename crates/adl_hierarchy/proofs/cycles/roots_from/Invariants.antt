use Rattle.adl_hierarchy.proofs.Common.{AreRoots}
use Rattle.adl_hierarchy.proofs.cycles.roots_from.Given as goal

abbrev pub invariant-loop-start : goal.invariant-loop-start
invariant-loop-start l = AreRoots l.graph l.roots.items
