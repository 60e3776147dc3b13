use Rattle.adl_hierarchy.proofs.Common.{AreHeldBy, AreRoots}
use Rattle.adl_hierarchy.proofs.cycles.spread_once.Given as goal

abbrev pub invariant-loop-inner : goal.invariant-loop-inner
invariant-loop-inner l = record {
  roots : AreRoots l.graph l.roots.items;
  waiting : AreHeldBy l.graph l.root l.waiting.items;
}
