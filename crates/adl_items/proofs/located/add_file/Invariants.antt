use Rattle.adl_items.proofs.Common.{drop, enumerate_from, located, map, ◌++◌, ◌≡◌}
use Rattle.adl_items.proofs.located.add_file.Given as goal

abbrev pub invariant-loop-i : goal.invariant-loop-i
invariant-loop-i l =
    map located l.items.items ++ map (λ e. (record { file = l.file; item = e.0 }, e.1.item))
    (enumerate_from l.i (drop l.i l.ended-items))
    ≡ map located l.fn.items.items ++ map (λ e. (record { file = l.file; item = e.0 }, e.1.item)) (enumerate_from 0 l.ended-items)
