use Rattle.sect_table.proofs.Sound.{has_table}
use Rattle.sect_table.proofs.back_laws.images_have_tables.Goals as goal

pub returns : goal.returns
returns c = has_table
