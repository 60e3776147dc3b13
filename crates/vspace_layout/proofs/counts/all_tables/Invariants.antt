use Rattle.vspace_layout.proofs.Common.{capped, drop, map, sum, tables_of, ◌+◌, ◌-◌, ◌^◌, ◌≡◌, ◌≤◌}
use Rattle.vspace_layout.proofs.counts.all_tables.Given as goal

abbrev pub invariant-loop-pages : goal.invariant-loop-pages
invariant-loop-pages l = record {
  fits : l.count ≤ 2 ^ 64 - 1;
  rest : capped (l.count + sum (map (tables_of l.arch) (drop l.pages-index l.spaces))) ≡ capped
      (sum (map (tables_of l.arch) l.spaces));
}
