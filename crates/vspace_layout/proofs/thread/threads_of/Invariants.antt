use Rattle.vspace_layout.proofs.Common.{all_ends, domain_threads, drop, ◌++◌, ◌≡◌}
use Rattle.vspace_layout.proofs.thread.threads_of.Given as goal

abbrev pub invariant-loop-leaf : goal.invariant-loop-leaf
invariant-loop-leaf l = l.threads ++ domain_threads l.wiring.flat (all_ends l.wiring) (drop l.leaf-index l.leaves)
    ≡ domain_threads l.wiring.flat (all_ends l.wiring) l.leaves
