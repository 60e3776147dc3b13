use Rattle.sect_table.proofs.Rows.{table_read}
use Rattle.sect_table.proofs.back_laws.tables_are_read_back.Goals as goal

pub returns : goal.returns
returns c = table_read
