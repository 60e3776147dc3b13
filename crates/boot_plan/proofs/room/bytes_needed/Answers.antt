use Rattle.boot_plan.proofs.Common.{Need, Nothing, arith, block_bytes, get_or, sum_by_more}
use Rattle.boot_plan.proofs.Usual.{block_small, usual_got}
use Rattle.boot_plan.proofs.room.bytes_needed.Goals as goal

pub loop-need-preserved : goal.loop-need-preserved
loop-need-preserved c =
    let ns = c.args.needs.now in
    let i = c.loop-need.need-index in
    let d : Need = Nothing in
    let h = sum_by_more (block_bytes c.args.least) ns i d c.loop-need-test.true in
    let b = block_small c.args.least (get_or ns i d) (usual_got ns i d c.requires.usual c.loop-need-test.true) in
    let e = c.block_bytes-total.ensures in
    record { so_far = omega (arith, h, e, c.loop-need.invariant.so_far); few = omega (arith, b, e, c.loop-need.invariant.few) }
