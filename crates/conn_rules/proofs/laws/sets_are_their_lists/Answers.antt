use Rattle.conn_rules.proofs.Sets.{set_of_list}
use Rattle.conn_rules.proofs.laws.sets_are_their_lists.Goals as goal

pub returns : goal.returns
returns c = set_of_list
