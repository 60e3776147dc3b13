-- How long texts of parts are, and how long numbers.
use Rattle.cam_base.proofs.Common.{List, [], arith, flat_map, length, length-append, length-decimal-le, ℕ, ◌+◌, ◌<◌, ◌^◌, ◌∷◌, ◌≤◌}
use Rattle.std.specs.Prelude.{decimal}
use Rattle.cam_base.specs.Texts.{together}

-- how long parts are together, where each is at most as long as its number
abbrev pub room : List ℕ → ℕ
room [] = 0
room (n ∷ ns) = n + room ns

-- each part is at most as long as its number
abbrev pub AreShort : List ℕ → List (List ℕ) → Type 0
AreShort [] [] = Unit {0}
AreShort [] (x ∷ xs) = ⊥
AreShort (n ∷ ns) [] = ⊥
AreShort (n ∷ ns) (x ∷ xs) = (length x ≤ n) × AreShort ns xs

pub all_short : (ns : List ℕ) (xs : List (List ℕ)) → AreShort ns xs → length (together xs) ≤ room ns
unfolding together
all_short [] [] h = omega arith
all_short [] (x ∷ xs) h = absurd h
all_short (n ∷ ns) [] h = absurd h
all_short (n ∷ ns) (x ∷ xs) h =
    let a = length-append x (flat_map (λ z. z) xs) in
    let ih : length (flat_map (λ z. z) xs) ≤ room ns = all_short ns xs h.1 in
    let b = h.0 in
    omega (arith, a, ih, b)

pub decimal_short : (n : ℕ) → n < 2 ^ 64 → length (decimal n) ≤ 20
decimal_short n l = length-decimal-le 20 n (omega arith) (omega arith) l
