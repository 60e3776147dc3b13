use Rattle.capdl_read.proofs.Common.{List, drop, entry_of, map, slots_told, spread_found, ℕ, ◌++◌, ◌≡◌}
use Rattle.capdl_read.proofs.build.entries_of.Given as goal

abbrev pub invariant-loop-object : goal.invariant-loop-object
invariant-loop-object l = l.entries ++ map (entry_of (λ (n : List ℕ). slots_told (spread_found l.table n)))
    (drop l.object-index l.objects) ≡ map (entry_of (λ (n : List ℕ). slots_told (spread_found l.table n))) l.objects
