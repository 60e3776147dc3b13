use Rattle.vspace_layout.proofs.Common.{drop, flat_map, map, thread_regions, window_region, ◌++◌, ◌≡◌}
use Rattle.vspace_layout.specs.Regions.{regions_in}
use Rattle.vspace_layout.proofs.region.regions_of.Given as goal

abbrev pub invariant-loop-thread : goal.invariant-loop-thread
invariant-loop-thread l = l.regions ++ flat_map (thread_regions l.wiring.settled) (drop l.thread-index l.threads)
    ≡ flat_map (thread_regions l.wiring.settled) l.threads

abbrev pub invariant-loop-end : goal.invariant-loop-end
invariant-loop-end l = l.regions ++ map (window_region l.wiring.flat l.wiring.settled) (drop l.end-index l.windows)
    ≡ regions_in l.wiring.flat l.wiring.settled l.threads l.windows
