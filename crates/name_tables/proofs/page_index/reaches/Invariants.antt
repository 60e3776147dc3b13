use Rattle.name_tables.proofs.PageSearch.{AreReachesTo}
use Rattle.name_tables.proofs.page_index.reaches.Given as goal

abbrev pub invariant-loop-region : goal.invariant-loop-region
invariant-loop-region l = AreReachesTo l.regions l.region-index l.reach l.found.items
