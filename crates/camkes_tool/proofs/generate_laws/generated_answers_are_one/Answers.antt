use Rattle.camkes_tool.proofs.OneGenerated.{one_generated}
use Rattle.camkes_tool.proofs.generate_laws.generated_answers_are_one.Goals as goal

pub returns : goal.returns
returns c = one_generated
