use Rattle.adl_hierarchy.proofs.Common.{IsPlacing, Settles, ◌<◌}
use Rattle.adl_hierarchy.proofs.placing.Placing.settle_all.Given as goal

abbrev pub invariant-loop-component : goal.invariant-loop-component
invariant-loop-component l = record {
  placing : IsPlacing l.graph l.self;
  settles : Settles l.graph l.fn.self l.self (λ x. x < l.component);
}
