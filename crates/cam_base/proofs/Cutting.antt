-- The first part of a text, and the parts behind it.
use Rattle.cam_base.proofs.Common.{Bool, List, [], arith, before_first, cases_lt, drop, drop-drop, false, inl, inr, leb, length, length-drop, length-take-le, nat_tests, parts, parts_from, position_or_len, refl, slice_split, take_all, true}
use Rattle.cam_base.proofs.Common.{ℕ, rules, ◌+◌, ◌<◌, ◌==◌, ◌∙◌, ◌∷◌, ◌≡◌, ◌≤◌}
use Rattle.std.proofs.lemmas.List.Splits.{slice_split_first, slice_split_none}
use Rattle.std.proofs.lemmas.List.Sums.{fails_before_first}

-- the first part and the others
split_more : (p : ℕ → Bool) (rest : List ℕ) → position_or_len p rest < length rest
    → slice_split p rest ≡ before_first p rest ∷ slice_split p (drop (length (before_first p rest) + 1) rest)
split_more p rest lt = grind (arith, slice_split_first, length-take-le)

-- the only part
split_last : (p : ℕ → Bool) (rest : List ℕ) → length rest ≤ position_or_len p rest → slice_split p rest ≡ before_first p rest ∷ []
split_last p rest le = grind (arith, slice_split_none, fails_before_first, take_all)

from_within : (separator at n : ℕ) (bytes : List ℕ) → at + n < length bytes
    → parts_from separator (at + (n + 1)) bytes ≡ parts separator (drop (n + 1) (drop at bytes))
from_within separator at n bytes lt = search (rules, leb, nat_tests, drop-drop)

-- no part stands past the end
pub parts_end : (separator at : ℕ) (bytes : List ℕ) → length bytes < at → parts_from separator at bytes ≡ []
parts_end separator at bytes lt = let out : leb at (length bytes) ≡ false = grind (arith, nat_tests) in rw out refl

-- a part more, at a place within the text
pub parts_more : (separator at : ℕ) (bytes : List ℕ) → at ≤ length bytes
    → parts_from separator at bytes ≡ before_first (λ b. b == separator) (drop at bytes)
    ∷ parts_from separator (at + (length (before_first (λ b. b == separator) (drop at bytes)) + 1)) bytes
parts_more separator at bytes le =
    elim (cases_lt (position_or_len (λ b. b == separator) (drop at bytes)) (length (drop at bytes))) [
      | inl lt ↦ more lt
      | inr ge ↦ last ge
    ]
  where
    begin : parts_from separator at bytes ≡ parts separator (drop at bytes)
    begin = let within : leb at (length bytes) ≡ true = grind (arith, nat_tests) in rw within refl

    more : position_or_len (λ b. b == separator) (drop at bytes) < length (drop at bytes)
        → parts_from separator at bytes ≡ before_first (λ b. b == separator) (drop at bytes)
        ∷ parts_from separator (at + (length (before_first (λ b. b == separator) (drop at bytes)) + 1)) bytes
    more lt = grind (arith, length-take-le, length-drop, begin, split_more, from_within)

    last : length (drop at bytes) ≤ position_or_len (λ b. b == separator) (drop at bytes)
        → parts_from separator at bytes ≡ before_first (λ b. b == separator) (drop at bytes)
        ∷ parts_from separator (at + (length (before_first (λ b. b == separator) (drop at bytes)) + 1)) bytes
    last ge = grind (arith, take_all, length-drop, begin, split_last, parts_end)
