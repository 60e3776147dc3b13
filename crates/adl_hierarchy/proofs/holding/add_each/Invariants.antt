use Rattle.adl_hierarchy.proofs.Common.{HasMore, take}
use Rattle.adl_hierarchy.proofs.holding.add_each.Given as goal

abbrev pub invariant-loop-number : goal.invariant-loop-number
invariant-loop-number l = HasMore (take l.number-index l.numbers) l.fn.found l.found
