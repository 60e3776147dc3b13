use Rattle.adl_settings.proofs.Common.{drop, ◌++◌, ◌≡◌}
use Rattle.adl_settings.specs.DeviceOverlap.{regions_in}
use Rattle.adl_settings.proofs.overlaps.add_regions.Given as goal

abbrev pub invariant-loop-end : goal.invariant-loop-end
invariant-loop-end l = l.regions.items ++ regions_in (drop l.end-index l.ends) ≡ l.fn.regions.items ++ regions_in l.ends
