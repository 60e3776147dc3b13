use Rattle.cam_io.proofs.Common.{append-nil, refl, sym, ◌∙◌}
use Rattle.cam_io.proofs.Saying.{flushes_failed, flushes_sent, open_written, says_sent}
use Rattle.cam_io.proofs.writer.Writer.flush.Goals as goal

pub returns-then-self : goal.returns-then-self
returns-then-self g c = flushes_failed c.if-self.true

pub invariant_of-self : goal.invariant_of-self
invariant_of-self g c = record {
  is_open = open_written c.write_all-sent.result c.as_slice.result.now c.write_all-sent.ensures.writes c.args.self.now.is_open;
}

pub returns : goal.returns
returns g c =
    let these = append-nil c.args.self.now.waiting.items ∙ sym c.as_slice.ensures.value in
    let is = c.is_err-self.ensures.value in
    flushes_sent is (says_sent c.if-self.false refl refl is c.write_all-sent.ensures.writes these c.clear.ensures) c.clear.ensures
