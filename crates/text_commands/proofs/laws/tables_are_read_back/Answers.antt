use Rattle.text_commands.proofs.TableBack.{table_back}
use Rattle.text_commands.proofs.laws.tables_are_read_back.Goals as goal

pub returns : goal.returns
returns c = table_back
