use Rattle.explain.proofs.Common.{EndAt, IsSought, told, ◌<◌}
use Rattle.explain.proofs.search.Search.first_end.Given as goal

abbrev pub invariant-loop-place : goal.invariant-loop-place
invariant-loop-place l = (y : EndAt l.self.tables.flat.now) → y.place < l.place
    → IsSought (told l.self.tables) l.self.edge l.sought y → ⊥
