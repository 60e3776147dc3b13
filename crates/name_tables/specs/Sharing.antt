-- Regions, each of a key, that share a page with a region of another key.
use Rattle.std.specs.Prelude.{ℕ, ◌+◌, ◌==◌, nat_lt, Bool, ◌&&◌, not}
use Rattle.name_tables.specs.declared.region.Region.{Region}

abbrev pub is_same : Region → Region → Bool
is_same a b = a.key.0 == b.key.0 && a.key.1 == b.key.1

-- they are of two keys, and each begins in front of the other's end
abbrev pub shares : Region → Region → Bool
shares a b = not (is_same a b) && (nat_lt a.first (b.first + b.count) && nat_lt b.first (a.first + a.count))
