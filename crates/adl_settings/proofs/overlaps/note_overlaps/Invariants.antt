use Rattle.adl_settings.proofs.Common.{drop, flat_map, noted, overlap_at, overlaps, ◌≡◌}
use Rattle.adl_settings.proofs.overlaps.note_overlaps.Given as goal

abbrev pub invariant-loop-region : goal.invariant-loop-region
invariant-loop-region l = noted l.first (flat_map (overlap_at l.pages.items) (drop l.region-index l.regions)) ≡ noted l.fn.first
    (overlaps l.regions)
