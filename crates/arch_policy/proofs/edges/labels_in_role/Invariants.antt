use Rattle.arch_policy.proofs.Common.{drop, labels_in_role, told, ◌++◌, ◌≡◌}
use Rattle.arch_policy.proofs.edges.labels_in_role.Given as goal

abbrev pub invariant-loop-end : goal.invariant-loop-end
invariant-loop-end l = l.labels ++ labels_in_role (told l.tables) l.role (drop l.end-index l.ends)
    ≡ labels_in_role (told l.tables) l.role l.ends
