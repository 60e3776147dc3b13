use Rattle.cap_model.proofs.Common.{Adds, IsOfSet, number_of, ◌<◌}
use Rattle.cap_model.proofs.growth.with_set.Given as goal

abbrev pub invariant-loop-number : goal.invariant-loop-number
invariant-loop-number l = Adds (λ e. IsOfSet l.fn.from l.fn.set.bits l.fn.to e × (number_of e.authority < l.number))
    l.fn.edges.items l.edges.items
