use Rattle.page_tables.proofs.Common.{length}
use Rattle.page_tables.proofs.counts.+levels_from.Given as goal

abbrev pub decreases-levels_from : goal.decreases-levels_from
decreases-levels_from g l = length l.shapes.now
