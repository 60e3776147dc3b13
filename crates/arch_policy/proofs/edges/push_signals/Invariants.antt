use Rattle.arch_policy.proofs.Common.{drop, gather, signals_at, take, told, ◌++◌, ◌≡◌}
use Rattle.arch_policy.proofs.edges.push_signals.Given as goal

abbrev pub invariant-loop-place : goal.invariant-loop-place
invariant-loop-place l = l.edges ≡ l.fn.edges ++ gather (λ k x. gather (λ n e. signals_at (told l.tables) k x e) x.ends)
    (take l.place l.tables.flat.now.connections)

abbrev pub invariant-loop-end : goal.invariant-loop-end
invariant-loop-end l = l.edges
    ++ gather (λ n e. signals_at (told l.tables) l.place l.connection e) (drop l.end-index l.connection.ends)
    ≡ (l.fn.edges ++ gather (λ k x. gather (λ n e. signals_at (told l.tables) k x e) x.ends)
    (take l.place l.tables.flat.now.connections))
    ++ gather (λ n e. signals_at (told l.tables) l.place l.connection e) l.connection.ends
