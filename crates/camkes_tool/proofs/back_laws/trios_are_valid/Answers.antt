use Rattle.camkes_tool.proofs.TrioValid.{trio_valid}
use Rattle.camkes_tool.proofs.back_laws.trios_are_valid.Goals as goal

pub returns : goal.returns
returns c = trio_valid
