use Rattle.boot_plan.proofs.Common.{arith, get_or, room_bytes, sum_by_more}
use Rattle.boot_plan.proofs.Usual.{nowhere, region_got, room_small}
use Rattle.boot_plan.proofs.room.bytes_had.Goals as goal

pub loop-region-preserved : goal.loop-region-preserved
loop-region-preserved c =
    let rs = c.args.regions.now in
    let i = c.loop-region.region-index in
    let h = sum_by_more (room_bytes c.args.least) rs i nowhere c.loop-region-test.true in
    let b = room_small c.args.least (get_or rs i nowhere) (region_got rs i nowhere c.requires.sound c.loop-region-test.true) in
    let e = c.room_bytes-total.ensures in
    record {
      so_far = omega (arith, h, e, c.loop-region.invariant.so_far);
      few = omega (arith, b, e, c.loop-region.invariant.few);
    }
