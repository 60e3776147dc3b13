use Rattle.cspace_layout.proofs.Common.{capped, drop, greatest, max, sum, ◌+◌, ◌-◌, ◌^◌, ◌≡◌, ◌≤◌}
use Rattle.cspace_layout.proofs.Limits.{use_counts}
use Rattle.cspace_layout.proofs.count.slot_limit.Given as goal

abbrev pub invariant-loop-domain : goal.invariant-loop-domain
invariant-loop-domain l = record {
  fits : l.all ≤ 2 ^ 64 - 1;
  low : max 4095 (greatest (use_counts l.wiring (drop l.domain-index l.wiring.flat.domains))) ≡ max 4095
      (greatest (use_counts l.wiring l.wiring.flat.domains));
  rest : capped (l.all + sum (use_counts l.wiring (drop l.domain-index l.wiring.flat.domains))) ≡ capped
      (sum (use_counts l.wiring l.wiring.flat.domains));
}
