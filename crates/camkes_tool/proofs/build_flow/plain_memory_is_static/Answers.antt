use Rattle.camkes_tool.proofs.Staying.{run_static}
use Rattle.camkes_tool.proofs.build_flow.plain_memory_is_static.Goals as goal

pub returns : goal.returns
returns c = run_static
