use Rattle.adl_hierarchy.proofs.Common.{IsPlacing, Settles, has, take, true, ◌≡◌}
use Rattle.adl_hierarchy.proofs.placing.Placing.settle_each.Given as goal

abbrev pub invariant-loop-component : goal.invariant-loop-component
invariant-loop-component l = record {
  placing : IsPlacing l.graph l.self;
  settles : Settles l.graph l.fn.self l.self (λ x. has (take l.component-index l.components) x ≡ true);
}
