use Rattle.arch_policy.proofs.Common.{drop, gather, is_lock, list_any, lock_edge, lock_edges, members_at, told, ◌++◌, ◌≡◌}
use Rattle.arch_policy.proofs.edges.push_locks.Given as goal

abbrev pub invariant-loop-leaf : goal.invariant-loop-leaf
invariant-loop-leaf l = l.edges
    ++ gather (λ k x. lock_edge (told l.tables) x.domain (list_any is_lock (members_at l.tables.source.now x.component)))
    (drop l.leaf-index l.tables.flat.now.leaves)
    ≡ l.fn.edges ++ lock_edges (told l.tables)
