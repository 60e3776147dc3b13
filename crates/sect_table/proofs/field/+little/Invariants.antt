use Rattle.sect_table.proofs.Common.{length}
use Rattle.sect_table.proofs.field.+little.Given as goal

abbrev pub decreases-little : goal.decreases-little
decreases-little l = length l.bytes.now
