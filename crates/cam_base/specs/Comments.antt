-- Where a comment that begins with `/*` ends.
use Rattle.std.specs.Prelude.{ℕ, List, [], ◌∷◌, Option, Some, None, ◌==◌, ◌&&◌, if◌then◌else◌}

-- the rest behind the next */
abbrev pub after_close : List ℕ → Option (List ℕ)
after_close [] = None
after_close (a ∷ []) = None
after_close (a ∷ b ∷ bs) = if a == 42 && b == 47 then Some bs else after_close (b ∷ bs)
