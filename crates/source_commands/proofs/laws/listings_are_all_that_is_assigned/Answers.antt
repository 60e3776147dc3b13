use Rattle.source_commands.proofs.OverTree.{lists_assigned}
use Rattle.source_commands.proofs.laws.listings_are_all_that_is_assigned.Goals as goal

pub returns : goal.returns
returns c = lists_assigned
