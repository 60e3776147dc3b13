use Rattle.adl_settings.proofs.SettleCommon.{codes, not, sym, value_at, where_set, ◌∙◌}
use Rattle.adl_settings.proofs.search.Lookup.leaf_found.Goals as goal

pub returns-clause-found : goal.returns-clause-found
returns-clause-found c =
    let h = c.args.self.now in
    λ i. record {
      leaf = c.args.leaf.now;
      priority =
          (c.in_ok-priority.ensures.value
          ∙ (λ j. where_set (not (sym c.if-leaf.false j)) (value_at h (c.names-path.ensures j) (codes "_priority")))) i;
      stack =
          (c.in_ok-stack.ensures.value
          ∙ (λ j. where_set (not (sym c.if-leaf.false j)) (value_at (c.in_ok-priority.ensures.same j) (c.names-path.ensures j)
          (codes "_stack_size")))) i;
    }
