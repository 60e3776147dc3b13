use Rattle.cap_model.proofs.Common.{Edge, IsSorted, List, ap, has, subst, ◌∙◌}
use Rattle.cap_model.proofs.TableMembers.{one_table}
use Rattle.cap_model.proofs.edge_set.EdgeSet.table.Goals as goal

pub returns : goal.returns
returns c =
    one_table c.in_ok-table.table c.args.self.now c.in_ok-table.ensures.sorted (subst IsSorted c.in_ok-edges.ensures.items
    c.in_ok-edges.ensures.sorted)
    (λ e. c.in_ok-table.ensures.same e ∙ ap (λ (es : List Edge). has es e) (c.as_slice.ensures.value
    ∙ c.in_ok-edges.ensures.items))
