use Rattle.cam_io.proofs.Common.{refl}
use Rattle.cam_io.proofs.Saying.{says_waiting}
use Rattle.cam_io.proofs.writer.Writer.text.Goals as goal

pub returns-in-Ok : goal.returns-in-Ok
returns-in-Ok g c = says_waiting refl refl refl c.in-Ok.ensures.ok
