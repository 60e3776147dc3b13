use Rattle.vspace_layout.proofs.Common.{Domain, Outline, capped, counted_by, drop, map, pages_in, section_page_count, sum, ◌+◌, ◌-◌, ◌^◌, ◌≡◌, ◌≤◌}
use Rattle.vspace_layout.proofs.counts.all_pages.Given as goal

abbrev pub invariant-loop-domain : goal.invariant-loop-domain
invariant-loop-domain l = record {
  fits : l.count ≤ 2 ^ 64 - 1;
  rest : capped (l.count + sum (map (λ (d : Domain). section_page_count l.images d.leaves)
      (drop l.domain-index l.wiring.flat.domains)))
      ≡ capped (sum (map (λ (d : Domain). section_page_count l.images d.leaves) l.wiring.flat.domains));
}

abbrev pub invariant-loop-outline : goal.invariant-loop-outline
invariant-loop-outline l = record {
  fits : l.count ≤ 2 ^ 64 - 1;
  rest : capped (l.count + sum (map (λ (o : Outline). pages_in o.regions) (drop l.outline-index l.outlines))) ≡ capped
      (counted_by l.wiring.flat l.images l.outlines);
}
