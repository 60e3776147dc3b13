use Rattle.adl_program.proofs.Common.{IsInnerFirst, List, subst, ℕ, ◌∙◌}
use Rattle.adl_program.proofs.program.program_of.Goals as goal

pub invariant_of-result : goal.invariant_of-result
invariant_of-result c = record {
  leads = c.in_ok-leads.ensures;
  order_is = subst (λ (g : List (List ℕ)). IsInnerFirst g c.in-Some.order) (c.as_slice.ensures ∙ c.in_ok-graph.ensures.graph)
      (rw c.in-Some.is at c.in_ok-order.ensures.order);
}
