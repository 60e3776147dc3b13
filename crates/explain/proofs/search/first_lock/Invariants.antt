use Rattle.explain.proofs.Common.{LockAt, domain_label, told, ◌<◌, ◌≡◌}
use Rattle.explain.proofs.search.first_lock.Given as goal

abbrev pub invariant-loop-number : goal.invariant-loop-number
invariant-loop-number l = (y : LockAt l.tables.source.now l.tables.flat.now) → y.leaf < l.number
    → domain_label (told l.tables) y.domain ≡ l.label → ⊥
