use Rattle.cam_io.proofs.Common.{take}
use Rattle.cam_io.proofs.Taken.{host_appended}
use Rattle.cam_io.proofs.host_outputs.HostOutputsOutputs.write.Goals as goal

pub returns-in-Ok-clause-ok : goal.returns-in-Ok-clause-ok
returns-in-Ok-clause-ok c = host_appended c.args.self.now.files c.args.channel (take c.in-Ok.count c.args.piece.now)
