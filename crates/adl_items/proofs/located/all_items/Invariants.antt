use Rattle.adl_items.proofs.Common.{drop, enumerate_from, flat_map, items_in, located, map, ◌++◌, ◌≡◌}
use Rattle.adl_items.proofs.located.all_items.Given as goal

abbrev pub invariant-loop-i : goal.invariant-loop-i
invariant-loop-i l =
    map located l.items.items ++ flat_map items_in (enumerate_from l.i (drop l.i l.file-items))
    ≡ flat_map items_in (enumerate_from 0 l.file-items)
