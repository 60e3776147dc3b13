-- Keys that rise: each is above the one before it. None of them stands a second time.
use Rattle.std.specs.Prelude.{Bool, true, false, cond, nat_lt, ◌==◌, ◌&&◌, ◌||◌, List, [], ◌∷◌, Option, Some, None}
use Rattle.capdl_text.specs.Twice.{Keyed}
use Rattle.name_tables.specs.Keys.{Key}

-- whether the key is above the last, where there is a last
abbrev pub is_above : Option Key → Key → Bool
is_above None k = true
is_above (Some l) k = nat_lt l.0 k.0 || l.0 == k.0 && nat_lt l.1 k.1

abbrev pub rises : {X : Type 0} → (X → Keyed) → Option Key → List X → Bool
rises g last [] = true
rises g last (x ∷ xs) = cond (is_above last (g x).0) (rises g (Some (g x).0) xs) false
