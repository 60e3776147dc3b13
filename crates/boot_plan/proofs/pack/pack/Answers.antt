use Rattle.boot_plan.proofs.Common.{Need, Nothing}
use Rattle.boot_plan.proofs.Packing.{pack_step}
use Rattle.boot_plan.proofs.pack.pack.Goals as goal

pub loop-need-preserved : goal.loop-need-preserved
loop-need-preserved c =
    let d : Need = Nothing in
    let s = pack_step c.args.rooms.now.regions.items c.loop-need.starts c.place.new.starts c.args.needs.now c.loop-need.need-index
    d c.loop-need.places c.push.new.self _ c.place.result c.loop-need-test.true c.requires.usual c.loop-need.invariant.fit
    c.place.ensures.place c.place.ensures.starts c.in_ok-push.ensures.ok c.loop-need.invariant.so_far in
    record { fit = s.fit; so_far = s.so_far }
