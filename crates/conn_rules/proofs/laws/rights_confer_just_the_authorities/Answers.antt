use Rattle.conn_rules.proofs.RowAuthorities.{rows_confer}
use Rattle.conn_rules.proofs.laws.rights_confer_just_the_authorities.Goals as goal

pub returns : goal.returns
returns c = rows_confer
