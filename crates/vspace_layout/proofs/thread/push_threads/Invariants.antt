use Rattle.vspace_layout.proofs.Common.{all_ends, drop, ends_at, flat_map, leaf_threads, server, ◌++◌, ◌≡◌}
use Rattle.vspace_layout.proofs.thread.push_threads.Given as goal

abbrev pub invariant-loop-end : goal.invariant-loop-end
invariant-loop-end l = l.threads ++ flat_map (server l.wiring.flat l.leaf) (drop l.end-index (ends_at (all_ends l.wiring) l.leaf))
    ≡ l.fn.threads ++ leaf_threads l.wiring.flat (all_ends l.wiring) l.leaf
