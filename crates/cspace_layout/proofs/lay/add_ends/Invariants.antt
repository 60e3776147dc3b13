use Rattle.cspace_layout.proofs.Common.{drop, flat_map, uses_at, ◌++◌, ◌≡◌}
use Rattle.cspace_layout.proofs.lay.add_ends.Given as goal

abbrev pub invariant-loop-at : goal.invariant-loop-at
invariant-loop-at l = l.uses ++ flat_map (uses_at l.wiring.flat) (drop l.at-index l.ends) ≡ l.fn.uses
    ++ flat_map (uses_at l.wiring.flat) l.ends
