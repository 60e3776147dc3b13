use Rattle.cam_io.proofs.Common.{None, begun_name, length, refl, slice_get_read, sym, ◌∙◌}
use Rattle.cam_io.proofs.Channels.{channel_at, no_channel}
use Rattle.cam_io.proofs.mem_outputs.MemOutputs.begun.Goals as goal

pub returns-in-Some : goal.returns-in-Some
returns-in-Some c =
    let cs = c.args.self.now.channels in
    let x = c.in-Some.channel.now in
    let lookup = c.in-Some.ensures.lookup in
    c.begun.ensures
    ∙ sym (channel_at begun_name None cs c.args.channel x (slice_get_read cs (length cs) c.args.channel x refl
    lookup.3.0 lookup.1))

pub returns-in-None : goal.returns-in-None
returns-in-None c = sym (no_channel begun_name None c.args.self.now.channels c.args.channel c.in-None.ensures.lookup.3)
