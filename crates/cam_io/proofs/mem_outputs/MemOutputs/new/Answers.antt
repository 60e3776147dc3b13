use Rattle.cam_io.proofs.Channels.{fresh_six}
use Rattle.cam_io.proofs.mem_outputs.MemOutputs.new.Goals as goal

pub returns-clause-fresh : goal.returns-clause-fresh
returns-clause-fresh c k = rw (
  c.in_ok-new.ensures,
  c.in_ok-new-2.ensures,
  c.in_ok-new-3.ensures,
  c.in_ok-new-4.ensures,
  c.in_ok-new-5.ensures,
  c.in_ok-new-6.ensures,
) (fresh_six c.args.room k)
