-- The digests of names, by which tables are kept in order.
use Rattle.std.specs.Prelude.{◌≡◌, ℕ, ◌==◌, ◌%◌, leb, Bool, true, List, [], ◌∷◌, length, get_or, Option, Some, None}
use Rattle.std.specs.Borrow.{Bor}
use Rattle.std.specs.Hash.FoldHasher.{initial, write, finish}
use Rattle.std.specs.List.{list_all}
use Rattle.std.specs.Option.{option_or}
use Rattle.name_tables.specs.ByName.{Name, found}

unfoldable pub digest : List ℕ → ℕ
digest name = finish (write initial name)

-- a name where it stands, with its digest
abbrev pub Key : Type 0
Key = ℕ × Bor (List ℕ)

abbrev pub is_digested : Key → Bool
is_digested k = k.0 == digest k.1.now

abbrev pub are_digested : {V : Type 0} → List (Key × V) → Bool
are_digested es = list_all (λ e. is_digested e.0) es

-- an entry, as contracts see it
abbrev pub shown : {V : Type 0} → Bor (List ℕ) × V → Name × V
shown e = (e.0.now, e.1)

-- an entry that there may be, as a list
abbrev pub one : {V : Type 0} → Option (Bor (List ℕ) × V) → List (Name × V)
one None = []
one (Some e) = shown e ∷ []

-- a place takes nine names
abbrev pub has_room : {V : Type 0} → List (Name × V) → Bool
has_room es = leb (length es) 8

-- the names at the place that the digest of a name says
abbrev pub at_place : {V : Type 0} → List (List (Name × V)) → Name → List (Name × V)
at_place places n = get_or places (digest n % length places) []

-- what stands under a name: at its place, or among the others
abbrev pub spread_found : {V : Type 0} → List (List (Name × V)) × List (Name × V) → Name → Option V
spread_found s n = option_or (found (at_place s.0 n) n) (found s.1 n)

-- no other has a place with room
abbrev pub AreOthers : {V : Type 0} → List (List (Name × V)) → List (Name × V) → Type 0
AreOthers places others = (n : Name) → has_room (at_place places n) ≡ true → found others n ≡ None
