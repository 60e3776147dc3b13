use Rattle.arch_policy.proofs.Common.{gather, take, told, ◌++◌, ◌≡◌}
use Rattle.arch_policy.proofs.Crossing.{from_end}
use Rattle.arch_policy.proofs.edges.push_crossed.Given as goal

abbrev pub invariant-loop-end : goal.invariant-loop-end
invariant-loop-end l = l.edges ≡ l.fn.edges ++ gather (λ n e. from_end (told l.tables) l.authority l.ends e)
    (take l.end-index l.ends)
