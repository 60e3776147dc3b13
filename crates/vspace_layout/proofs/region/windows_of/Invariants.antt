use Rattle.vspace_layout.proofs.Common.{all_ends, domain_windows, drop, ◌++◌, ◌≡◌}
use Rattle.vspace_layout.proofs.region.windows_of.Given as goal

abbrev pub invariant-loop-leaf : goal.invariant-loop-leaf
invariant-loop-leaf l = l.windows ++ domain_windows l.wiring.flat (all_ends l.wiring) (drop l.leaf-index l.leaves)
    ≡ domain_windows l.wiring.flat (all_ends l.wiring) l.leaves
