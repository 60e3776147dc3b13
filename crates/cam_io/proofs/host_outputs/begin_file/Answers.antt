use Rattle.cam_io.proofs.Taken.{host_begun}
use Rattle.cam_io.proofs.host_outputs.begin_file.Goals as goal

pub returns-in-Ok-clause-ok : goal.returns-in-Ok-clause-ok
returns-in-Ok-clause-ok c = host_begun c.args.files.now c.args.at c.args.name.now c.in-Ok.file c.requires
