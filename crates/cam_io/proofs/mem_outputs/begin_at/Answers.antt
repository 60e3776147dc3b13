use Rattle.cam_io.proofs.Common.{get_or, named_channel, refl, rules, slice_get-get_or, ◌≡◌}
use Rattle.cam_io.proofs.Channels.{chosen, room_kept, sink_begun}
use Rattle.cam_io.proofs.mem_outputs.begin_at.Goals as goal

pub returns-clause-begun : goal.returns-clause-begun
returns-clause-begun c h =
    let cs = c.args.channels.now in
    let f = get_or cs c.args.at c.index-channels-at.result in
    let is : c.begin.new.self ≡ named_channel f c.args.name.now = search rules in
    sink_begun cs c.args.at f c.begin.new.self c.args.name.now (slice_get-get_or cs c.args.at c.index-channels-at.result
    c.requires) is

pub returns-clause-rooms : goal.returns-clause-rooms
returns-clause-rooms c k =
    let cs = c.args.channels.now in
    let f = get_or cs c.args.at c.index-channels-at.result in
    let same = chosen c.begin.result f c.begin.new.self (named_channel f c.args.name.now) c.begin.ensures.channel refl in
    room_kept cs c.args.at f c.begin.new.self k (slice_get-get_or cs c.args.at c.index-channels-at.result c.requires) same
