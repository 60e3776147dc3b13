use Rattle.system_spec.proofs.Common.{IsNonDecreasingBy-from_sort, answers_always, ap, by_number, rules, ◌∙◌}
use Rattle.system_spec.proofs.Sorting.{by_number_from_sort}
use Rattle.system_spec.proofs.irq_lines.irq_lines.Goals as goal

pub returns : goal.returns
returns c =
    let keys = answers_always _ _ _ (λ f a r next called. search rules) in
    c.from_vec.ensures
    ∙ by_number_from_sort _ _ (IsNonDecreasingBy-from_sort (λ x. x.0) _ (c.in_ok-sort_by_key.ensures.sorted (λ x. x.0) keys))
    (c.sort_by_key.ensures.stable (λ x. x.0) keys)
    ∙ ap by_number (c.into_vec-lines.ensures ∙ c.in_ok-list.ensures)
