use Rattle.page_tables.proofs.Common.{length}
use Rattle.page_tables.proofs.tables.+push_tables.Given as goal

abbrev pub decreases-push_tables : goal.decreases-push_tables
decreases-push_tables l = length l.shapes.now
