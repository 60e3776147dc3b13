use Rattle.adl_hierarchy.proofs.Common.{AreHeldBy, AreRoots}
use Rattle.adl_hierarchy.proofs.cycles.spread.Given as goal

abbrev pub invariant-loop-next : goal.invariant-loop-next
invariant-loop-next l = record {
  roots : AreRoots l.graph l.roots.items;
  waiting : AreHeldBy l.graph l.root l.waiting.items;
}
