use Rattle.cam_io.proofs.Common.{ap, refl, ◌++◌}
use Rattle.cam_io.proofs.Saying.{open_written, says_sent, says_waiting}
use Rattle.cam_io.proofs.writer.Writer.text_alone.Goals as goal

pub returns-in-Ok : goal.returns-in-Ok
returns-in-Ok g c = says_waiting refl refl refl c.in-Ok.ensures.ok

pub invariant_of-self-in-Err : goal.invariant_of-self-in-Err
invariant_of-self-in-Err g c = record {
  is_open = open_written c.write_all.result c.args.text.now c.write_all.ensures.writes c.args.self.now.is_open;
}

pub returns-in-Err : goal.returns-in-Err
returns-in-Err g c =
    let none = c.requires.none in
    let these = ap (λ waiting. waiting ++ c.args.text.now) none in
    let is = c.is_err-self.ensures.value in
    says_sent c.requires.going refl refl is c.write_all.ensures.writes these (rw c.in-Err.ensures.err none)
