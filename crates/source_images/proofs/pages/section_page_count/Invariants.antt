use Rattle.source_images.proofs.Common.{drop, map, min, page_count, section_page_count, sections_told, sum, ◌+◌, ◌-◌, ◌^◌, ◌≡◌, ◌≤◌}
use Rattle.source_images.proofs.pages.section_page_count.Given as goal

abbrev pub invariant-loop-placed : goal.invariant-loop-placed
invariant-loop-placed l = record {
  fits : l.count ≤ 2 ^ 64 - 1;
  rest : min (l.count + sum (map (λ x. page_count x.section) (sections_told (drop l.placed-index l.placed-items))))
      (2 ^ 64 - 1) ≡ min (section_page_count l.images l.leaves) (2 ^ 64 - 1);
}
