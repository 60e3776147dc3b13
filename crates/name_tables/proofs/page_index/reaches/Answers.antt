use Rattle.name_tables.proofs.Common.{Region}
use Rattle.name_tables.proofs.PageSearch.{reaches_to_more}
use Rattle.name_tables.proofs.page_index.reaches.Goals as goal

pub loop-region-preserved : goal.loop-region-preserved
loop-region-preserved c =
    let zeros : Region = record { key = (0, 0); first = 0; count = 0 } in
    rw c.in_ok-push-2.ensures.items
    (reaches_to_more c.args.regions.now c.loop-region.region-index zeros c.loop-region.reach c.with-reach.result
    c.loop-region.found.items c.loop-region-test.true c.loop-region.invariant c.with-reach.ensures)
