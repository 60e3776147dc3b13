use Rattle.adl_hierarchy.proofs.Common.{IsInnerFirst, List, refl, subst, sym, ℕ}
use Rattle.adl_hierarchy.proofs.Waiting.{order_at_end, ring_at_end}
use Rattle.adl_hierarchy.proofs.Walks.{acyclic_from_order}
use Rattle.adl_hierarchy.proofs.order.inner_first.Goals as goal

pub returns-then-is_full-clause-order : goal.returns-then-is_full-clause-order
returns-then-is_full-clause-order c =
    let P : List ℕ → Type 0 = λ xs. IsInnerFirst c.args.graph.now xs in
    subst P (sym c.into_list.ensures.list) (order_at_end _ _ c.in_ok-placing.ensures.placing c.into_list.ensures.below
    (c.if-is_full.ensures.full refl))

pub returns-then-is_full-clause-acyclic : goal.returns-then-is_full-clause-acyclic
returns-then-is_full-clause-acyclic c =
    acyclic_from_order _ _ (order_at_end _ _ c.in_ok-placing.ensures.placing c.into_list.ensures.below
    (c.if-is_full.ensures.full refl))

pub returns-else-is_full-clause-none : goal.returns-else-is_full-clause-none
returns-else-is_full-clause-none c = λ acyclic.
    let one = c.if-is_full.ensures.lacking refl in
    ring_at_end _ _ c.requires.range c.in_ok-placing.ensures.end one.0 (rw (← c.in_ok-placing.ensures.placing.size) one.1)
    one.2 acyclic
