use Rattle.vspace_layout.proofs.Common.{capped, drop, pages_in, ◌+◌, ◌-◌, ◌^◌, ◌≡◌, ◌≤◌}
use Rattle.vspace_layout.proofs.counts.region_pages.Given as goal

abbrev pub invariant-loop-region : goal.invariant-loop-region
invariant-loop-region l = record {
  fits : l.count ≤ 2 ^ 64 - 1;
  rest : capped (l.count + pages_in (drop l.region-index l.regions)) ≡ capped (pages_in l.regions);
}
