use Rattle.cap_model.proofs.Common.{IsSorted, rules, subst, sym, ◌≡◌}
use Rattle.cap_model.proofs.edge_set.EdgeSet.listed.Goals as goal
use Rattle.cap_model.proofs.TableSorting.{sorted_by_place}

pub returns-clause-sorted : goal.returns-clause-sorted
returns-clause-sorted c =
    let items : c.in_ok-edges.edges.items ≡ c.self.inside.edges.keys = search rules in
    subst IsSorted (sym items) (sorted_by_place c.self.inside.edges.keys c.iter.ensures.ordered)
