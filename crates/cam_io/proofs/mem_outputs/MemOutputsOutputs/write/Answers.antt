use Rattle.cam_io.proofs.Common.{ap, appended, rules, sink_of, take, ◌∙◌, ◌≡◌}
use Rattle.cam_io.proofs.Appends.{appended_nil}
use Rattle.cam_io.proofs.Channels.{open_within}
use Rattle.cam_io.proofs.mem_outputs.MemOutputsOutputs.write.Goals as goal

pub take_at-count-requires : goal.take_at-count-requires
take_at-count-requires c = open_within c.fails.new.self.channels c.args.channel (search rules)
    (rw (c.fails.ensures.channels) c.requires.open.may)

pub returns-then-count-eq0-clause-err : goal.returns-then-count-eq0-clause-err
returns-then-count-eq0-clause-err c =
    let t : sink_of c.take_at-count.new.channels ≡ appended (sink_of c.fails.new.self.channels) c.args.channel
    (take c.take_at-count.result c.args.piece.now) = c.take_at-count.ensures.taken in
    ap sink_of c.fault-then-count-eq0.ensures.channels
    ∙ (t ∙ (ap (λ n. appended (sink_of c.fails.new.self.channels) c.args.channel (take n c.args.piece.now))
    c.if-count-eq0.true ∙ (appended_nil (sink_of c.fails.new.self.channels) c.args.channel
    ∙ ap sink_of c.fails.ensures.channels)))
