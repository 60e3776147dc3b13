use Rattle.vspace_layout.proofs.Common.{all_own, capped, drop, ◌+◌, ◌-◌, ◌^◌, ◌≡◌, ◌≤◌}
use Rattle.vspace_layout.proofs.counts.all_own.Given as goal

abbrev pub invariant-loop-pages : goal.invariant-loop-pages
invariant-loop-pages l = record {
  fits : l.count ≤ 2 ^ 64 - 1;
  rest : capped (l.count + all_own (drop l.pages-index l.spaces)) ≡ capped (all_own l.spaces);
}
