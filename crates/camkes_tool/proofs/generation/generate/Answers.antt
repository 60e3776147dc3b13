use Rattle.camkes_tool.proofs.Common.{generated, root_name}
use Rattle.camkes_tool.proofs.generation.generate.Goals as goal
use Rattle.camkes_tool.proofs.TrioValid.{trio_valid}

pub accepted-requires : goal.accepted-requires
accepted-requires c = trio_valid root_name (generated c.args.count) _ c.in-Ok.ensures
