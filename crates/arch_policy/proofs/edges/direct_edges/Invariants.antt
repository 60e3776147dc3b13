use Rattle.arch_policy.proofs.Common.{end_edges, gather, take, told, ◌++◌, ◌≡◌}
use Rattle.arch_policy.proofs.edges.direct_edges.Given as goal

abbrev pub invariant-loop-place : goal.invariant-loop-place
invariant-loop-place l = l.edges ≡ gather (λ k x. gather (λ n e. end_edges (told l.tables) k x n e) x.ends)
    (take l.place l.tables.flat.now.connections)

abbrev pub invariant-loop-number : goal.invariant-loop-number
invariant-loop-number l =
    l.edges ≡ gather (λ k x. gather (λ n e. end_edges (told l.tables) k x n e) x.ends)
    (take l.place l.tables.flat.now.connections)
    ++ gather (λ n e. end_edges (told l.tables) l.place l.connection n e) (take l.number l.connection.ends)
