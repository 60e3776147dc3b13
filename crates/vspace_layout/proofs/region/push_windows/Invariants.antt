use Rattle.vspace_layout.proofs.Common.{all_ends, drop, end_window, ends_at, flat_map, leaf_windows, ◌++◌, ◌≡◌}
use Rattle.vspace_layout.proofs.region.push_windows.Given as goal

abbrev pub invariant-loop-end : goal.invariant-loop-end
invariant-loop-end l = l.windows ++ flat_map (end_window l.wiring.flat) (drop l.end-index (ends_at (all_ends l.wiring) l.leaf))
    ≡ l.fn.windows ++ leaf_windows l.wiring.flat (all_ends l.wiring) l.leaf
