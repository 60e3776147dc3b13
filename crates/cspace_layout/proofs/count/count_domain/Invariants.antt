use Rattle.cspace_layout.proofs.Common.{capped, domain_uses, drop, length, ◌+◌, ◌-◌, ◌^◌, ◌≡◌, ◌≤◌}
use Rattle.cspace_layout.proofs.count.count_domain.Given as goal

abbrev pub invariant-loop-leaf : goal.invariant-loop-leaf
invariant-loop-leaf l = record {
  fits : l.count ≤ 2 ^ 64 - 1;
  rest : capped (l.count + length (domain_uses l.wiring.source l.wiring.flat (drop l.leaf-index l.listed))) ≡ capped
      (length (domain_uses l.wiring.source l.wiring.flat l.listed));
}
