use Rattle.arch_compile.proofs.Common.{cap_count, capped, drop, ◌+◌, ◌-◌, ◌^◌, ◌≡◌, ◌≤◌}
use Rattle.arch_compile.proofs.summary.cap_count.Given as goal

abbrev pub invariant-loop-entry : goal.invariant-loop-entry
invariant-loop-entry l = record {
  fits : l.count ≤ 2 ^ 64 - 1;
  rest : capped (l.count + cap_count (drop l.entry-index l.entries)) ≡ capped (cap_count l.entries);
}
