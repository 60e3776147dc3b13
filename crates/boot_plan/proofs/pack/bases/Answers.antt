use Rattle.boot_plan.proofs.Common.{arith, get_or}
use Rattle.boot_plan.proofs.Bases.{base_more}
use Rattle.boot_plan.proofs.Usual.{nowhere, region_got, room_small}
use Rattle.boot_plan.proofs.pack.bases.Goals as goal

pub loop-region-preserved : goal.loop-region-preserved
loop-region-preserved c =
    let rs = c.args.regions.now in
    let i = c.loop-region.region-index in
    let inv = c.loop-region.invariant in
    let b = room_small 0 (get_or rs i nowhere) (region_got rs i nowhere c.requires.sound c.loop-region-test.true) in
    let m = base_more rs i c.loop-region.base c.room_bytes-base.result c.loop-region.bases.items _ nowhere c.loop-region-test.true
    inv.so_far inv.count inv.each c.room_bytes-base.ensures c.in_ok-push.ensures.items in
    record { so_far = m.so_far; few = omega (arith, b, c.room_bytes-base.ensures, inv.few); count = m.count; each = m.each }
