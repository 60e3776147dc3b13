use Rattle.cap_model.proofs.TableMembers.{one_table}
use Rattle.cap_model.proofs.kinds.tables_are_their_edges.Goals as goal

pub returns : goal.returns
returns c = one_table
