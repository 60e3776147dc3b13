use Rattle.arch_policy.proofs.Common.{ap, filter, has, leads_out, reasoned_edges, rules, told, ◌∙◌}
use Rattle.std.proofs.lemmas.Fn.{filter_same}
use Rattle.arch_policy.proofs.Counted.{has_filter}
use Rattle.arch_policy.proofs.policy.assigned_edges.Goals as goal

pub returns-clause-same : goal.returns-clause-same
returns-clause-same c e =
    c.in_ok-table.ensures.same e
    ∙ ap (λ z. has z e) c.as_slice.ensures.value
    ∙ ap (λ z. has z e) (filter_same _ leads_out _ (λ x b f' k. search rules) _ _ c.retain.ensures.filtered
    ∙ ap (filter leads_out) c.into_vec-kept.ensures)
    ∙ has_filter c.in_ok-edges.edges (reasoned_edges (told c.args.tables.now)) leads_out c.in_ok-edges.ensures e
