use Rattle.arch_policy.proofs.Common.{crossed_at, gather, take, told, ◌++◌, ◌≡◌}
use Rattle.arch_policy.proofs.edges.push_crossed_edges.Given as goal

abbrev pub invariant-loop-connection : goal.invariant-loop-connection
invariant-loop-connection l = l.edges ≡ l.fn.edges ++ gather (λ k x. crossed_at (told l.tables) l.connector l.authority x)
    (take l.connection-index l.tables.flat.now.connections)
