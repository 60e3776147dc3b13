-- The places of tokens rise.
use Rattle.std.specs.Prelude.{◌≡◌, ◌<◌, ◌≤◌, ℕ, List, [], ◌∷◌}
use Rattle.cam_base.specs.declared.token.Token.{Token}

-- From a position on: each place names the file, begins no earlier than the one before it ends, and has a byte at least;
-- the last ends within the file, which has so many bytes.
abbrev pub PlacesRise : ℕ → ℕ → ℕ → List Token → Type 0
PlacesRise file total at [] = at ≤ total
PlacesRise file total at (t ∷ ts) = (t.place.file ≡ file) × (at ≤ t.place.first) × (t.place.first < t.place.end)
    × PlacesRise file total t.place.end ts
