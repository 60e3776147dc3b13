use Rattle.arch_policy.proofs.Common.{drop, edge, gather, leaves, set_has, where_true, ◌&&◌, ◌++◌, ◌≡◌}
use Rattle.arch_policy.proofs.edges.push_given.Given as goal

abbrev pub invariant-loop-authority : goal.invariant-loop-authority
invariant-loop-authority l = l.edges
    ++ gather (λ i a. where_true (set_has l.row.authorities.bits a && leaves l.setting a) (edge l.from a l.to))
    (drop l.authority-index l.authority-items)
    ≡ l.fn.edges
    ++ gather (λ i a. where_true (set_has l.row.authorities.bits a && leaves l.setting a) (edge l.from a l.to)) l.authority-items
