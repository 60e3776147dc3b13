use Rattle.cspace_layout.proofs.Common.{capped, drop, flat_map, length, uses_at, ◌+◌, ◌-◌, ◌^◌, ◌≡◌, ◌≤◌}
use Rattle.cspace_layout.proofs.count.count_ends.Given as goal

abbrev pub invariant-loop-at : goal.invariant-loop-at
invariant-loop-at l = record {
  fits : l.count ≤ 2 ^ 64 - 1;
  rest : capped (l.count + length (flat_map (uses_at l.wiring.flat) (drop l.at-index l.ends))) ≡ capped
      (length (flat_map (uses_at l.wiring.flat) l.ends));
}
