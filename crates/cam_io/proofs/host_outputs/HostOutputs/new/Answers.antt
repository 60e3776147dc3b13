use Rattle.std.specs.declared.fs.File.{File}
use Rattle.cam_io.proofs.Taken.{none_taken}
use Rattle.cam_io.proofs.host_outputs.HostOutputs.new.Goals as goal

pub returns-clause-fresh : goal.returns-clause-fresh
returns-clause-fresh c = none_taken File
