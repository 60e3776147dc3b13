use Rattle.source_images.proofs.Common.{drop, flat_map, pages_of, section_pages, sections_told, ◌++◌, ◌≡◌}
use Rattle.source_images.proofs.pages.section_pages.Given as goal

abbrev pub invariant-loop-placed : goal.invariant-loop-placed
invariant-loop-placed l = l.pages ++ flat_map (pages_of l.images) (sections_told (drop l.placed-index l.placed-items))
    ≡ section_pages l.images l.leaves
