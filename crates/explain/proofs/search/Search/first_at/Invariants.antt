use Rattle.explain.proofs.Common.{FlatEnd, Some, fits, slice_get, told, true, ℕ, ◌<◌, ◌≡◌}
use Rattle.explain.proofs.search.Search.first_at.Given as goal

abbrev pub invariant-loop-number : goal.invariant-loop-number
invariant-loop-number l = (m : ℕ) (y : FlatEnd) → m < l.number → slice_get l.connection.ends m ≡ Some y
    → fits (told l.self.tables) l.self.edge l.sought l.place l.connection m y ≡ true → ⊥
