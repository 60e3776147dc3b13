use Rattle.system_spec.proofs.Common.{Level, [], gather, page_table, take, ◌++◌, ◌∷◌, ◌≡◌}
use Rattle.system_spec.proofs.levels.push_page_tables.Given as goal

abbrev pub invariant-loop-place : goal.invariant-loop-place
invariant-loop-place l = l.all ≡ l.fn.all ++ gather (λ j (level : Level). page_table l.domain j level ∷ [])
    (take l.place l.levels)
