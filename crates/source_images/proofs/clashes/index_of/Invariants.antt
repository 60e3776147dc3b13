use Rattle.source_images.proofs.Common.{drop, map, region_of, sections_told, ◌++◌, ◌≡◌}
use Rattle.source_images.proofs.clashes.index_of.Given as goal

abbrev pub invariant-loop-placed : goal.invariant-loop-placed
invariant-loop-placed l = l.regions.items ++ map region_of (sections_told (drop l.placed-index l.sections)) ≡ map region_of
    (sections_told l.sections)
