use Rattle.cap_model.proofs.Common.{IsSorted, subst}
use Rattle.cap_model.proofs.edge_set.EdgeSet.len.Goals as goal
use Rattle.cap_model.proofs.TableSorting.{sorted_by_place}

pub returns-clause-sorted : goal.returns-clause-sorted
returns-clause-sorted c = subst IsSorted c.self.view_is (sorted_by_place c.self.inside.edges.keys c.len.ensures.ordered)
