-- How far regions reach: the furthest end of all, and the furthest end of those of other keys than the one that has it.
-- The two tell, for a key, whether a region of another key ends behind a place. In the order of their first places, the
-- regions that begin before the end of a region are the first so many; the region shares something with one of them if
-- that is of another key and ends behind the region's first place.
use Rattle.std.specs.Prelude.{◌≡◌, ◌≤◌, ◌+◌, ◌==◌, ℕ, nat_lt, Bool, ◌&&◌, not, if◌then◌else◌, List, length, take, slice_index_or}
use Rattle.std.specs.List.{list_any}
use Rattle.std.specs.List.Sorted.{IsNonDecreasingBy}
use Rattle.name_tables.specs.Sharing.{is_same}
use Rattle.name_tables.specs.declared.reach.Reach.{Reach}
use Rattle.name_tables.specs.declared.region.Region.{Region}

-- ---- reaches

-- whether b is of another key than a and ends behind the first place of a
abbrev pub ends_behind : Region → Region → Bool
ends_behind a b = not (is_same a b) && nat_lt a.first (b.first + b.count)

-- whether the furthest end is of the region's key
abbrev pub is_of : Reach → Region → Bool
is_of r a = a.key.0 == r.key.0 && a.key.1 == r.key.1

-- the furthest end of the keys other than the region's
abbrev pub end_beside : Reach → Region → ℕ
end_beside r a = if is_of r a then r.other_end else r.end

pub record IsReach (rs : List Region) (r : Reach) : Type 0 where
  pub order : r.other_end ≤ r.end
  pub beside : (a : Region) → list_any (ends_behind a) rs ≡ nat_lt a.first (end_beside r a)

-- ---- indices

-- the reaches of the first so many regions, from none to all
pub record AreReaches (rs : List Region) (found : List Reach) : Type 0 where
  pub count : length found ≡ length rs + 1
  pub reach : (k : ℕ) (d : Reach) → k ≤ length rs → IsReach (take k rs) (slice_index_or found k d)

abbrev pub IsInOrder : List Region → Type 0
IsInOrder rs = IsNonDecreasingBy (λ r. r.first) rs

pub record IsIndex (rs : List Region) (found : List Reach) : Type 0 where
  pub order : IsInOrder rs
  pub reaches : AreReaches rs found
