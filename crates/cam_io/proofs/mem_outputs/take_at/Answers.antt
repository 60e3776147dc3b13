use Rattle.cam_io.proofs.Common.{ap, get_or, length, min, slice_get-get_or, sym, ◌∙◌}
use Rattle.cam_io.proofs.Channels.{channel_at, room_taken, sink_taken}
use Rattle.cam_io.proofs.mem_outputs.take_at.Goals as goal

pub returns : goal.returns
returns c =
    let cs = c.args.channels.now in
    let f = get_or cs c.args.at c.index-channels-at.result in
    let e = slice_get-get_or cs c.args.at c.index-channels-at.result c.requires in
    record {
      count = c.take.ensures.count ∙ ap (min (length c.args.piece.now)) (sym (channel_at (λ y. y.room) 0 cs c.args.at f e));
      taken = sink_taken cs c.args.at f c.take.new.self c.take.result c.args.piece.now e c.take.ensures.channel;
      room = λ k. room_taken cs c.args.at f c.take.new.self c.take.result c.args.piece.now k e c.take.ensures.channel;
    }
