use Rattle.source_commands.proofs.OverTree.{answers_whether}
use Rattle.source_commands.proofs.laws.explained_is_what_is_assigned.Goals as goal

pub returns : goal.returns
returns c = answers_whether
