use Rattle.cam_io.proofs.Common.{[], refl}
use Rattle.cam_io.proofs.Sequence.{wrote_none}
use Rattle.cam_io.proofs.writer.Writer.new.Goals as goal

pub returns-clause-said : goal.returns-clause-said
returns-clause-said g c = record { sent = []; rest = []; all = refl; writes = wrote_none [] refl; waits = λ still. c.new.ensures }
