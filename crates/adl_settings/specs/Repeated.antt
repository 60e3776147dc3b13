-- Numbers that stand twice or more in a list.
use Rattle.adl_meaning.specs.Prelude.{count_by, lookup}
use Rattle.std.specs.Prelude.{Bool, List, false, nat_le, unwrap_or, ℕ, ◌==◌}

-- whether a table says that the number stands twice
unfoldable pub is_marked : List (ℕ × Bool) → ℕ → Bool
is_marked entries n = unwrap_or (lookup (λ m. n == m) entries) false

abbrev pub is_repeated : List ℕ → ℕ → Bool
is_repeated numbers n = nat_le 2 (count_by (λ m. n == m) numbers)
