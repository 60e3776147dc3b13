use Rattle.adl_flatten.proofs.Common.{flat_map, length, saturated, take, ◌≡◌}
use Rattle.adl_flatten.proofs.limits.end_count.Given as goal

abbrev pub invariant-loop-wire : goal.invariant-loop-wire
invariant-loop-wire l = l.count ≡ saturated (length (flat_map (λ w. w.wire.1.ends) (take l.wire-index l.wires)))
