use Rattle.arch_policy.proofs.Common.{From, drop, edge, gather, leaf_label, same_role, told, where_true, ◌++◌, ◌≡◌}
use Rattle.arch_policy.proofs.edges.push_to_each.Given as goal

abbrev pub invariant-loop-end : goal.invariant-loop-end
invariant-loop-end l =
    l.edges
    ++ gather (λ n e. where_true (same_role e.role From) (edge l.from l.authority (leaf_label (told l.tables) e.leaf)))
    (drop l.end-index l.ends)
    ≡ l.fn.edges
    ++ gather (λ n e. where_true (same_role e.role From) (edge l.from l.authority (leaf_label (told l.tables) e.leaf))) l.ends
