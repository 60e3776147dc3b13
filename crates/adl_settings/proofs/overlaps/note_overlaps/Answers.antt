use Rattle.adl_settings.proofs.Common.{flat_map, noted, overlap_at}
use Rattle.adl_settings.proofs.overlaps.note_overlaps.Goals as goal

pub loop-region-init : goal.loop-region-init
loop-region-init c = λ i. noted c.args.first.now (flat_map (overlap_at (c.in_ok-pages.ensures i)) c.args.regions.now)
