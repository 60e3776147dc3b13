use Rattle.cam_io.proofs.Common.{Learns, length, subst, ◌+◌, ◌∙◌}
use Rattle.cam_io.proofs.Seeing.{learns_on}
use Rattle.cam_io.proofs.seen.Seen.reach.Goals as goal

pub loop-self-preserved : goal.loop-self-preserved
loop-self-preserved c = record {
  name = c.ask.ensures.name ∙ c.loop-self.invariant.name;
  room = c.ask.auto.buf ∙ c.loop-self.invariant.room;
  grows = λ file h. c.loop-self.invariant.grows file (c.ask.ensures.grows file h);
  learns = learns_on c.args.self.now c.loop-self.self c.ask.new.self (c.args.at + length c.args.buf.now)
      c.loop-self.invariant.learns c.ask.ensures.grows
      (subst (λ n. Learns c.loop-self.self c.ask.new.self (c.args.at + n)) c.loop-self.invariant.room c.ask.ensures.learns);
}

pub returns-in_err-ask-clause-learns : goal.returns-in_err-ask-clause-learns
returns-in_err-ask-clause-learns c =
    learns_on c.args.self.now c.loop-self.self c.ask.new.self (c.args.at + length c.args.buf.now) c.loop-self.invariant.learns
    c.ask.ensures.grows
    (subst (λ n. Learns c.loop-self.self c.ask.new.self (c.args.at + n)) c.loop-self.invariant.room c.ask.ensures.learns)
