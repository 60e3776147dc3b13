use Rattle.camkes_tool.proofs.HeldAsRead.{as_read}
use Rattle.camkes_tool.proofs.back_laws.texts_hold_as_read.Goals as goal

pub returns : goal.returns
returns c = as_read
