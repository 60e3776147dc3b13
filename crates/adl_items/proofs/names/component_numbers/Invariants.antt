use Rattle.adl_items.proofs.Common.{Name, drop, found, number_from, option_or, trees, ◌≡◌}
use Rattle.adl_items.proofs.names.component_numbers.Given as goal

abbrev pub invariant-loop-i : goal.invariant-loop-i
invariant-loop-i l =
    (n : Name) → option_or (found l.table n) (number_from l.i (trees (drop l.i l.components)) n) ≡ number_from 0
    (trees l.components) n
