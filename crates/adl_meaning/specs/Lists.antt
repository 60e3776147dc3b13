-- The place of something in it, and a list without what stands twice.
use Rattle.std.specs.Prelude.{ℕ, zero, suc, Bool, false, ◌||◌, if◌then◌else◌, List, [], ◌∷◌}

-- the place of the first that is like this one; where none is, the place behind the last
abbrev pub place_by : {X : Type 0} → (X → Bool) → List X → ℕ
place_by is [] = zero
place_by is (x ∷ xs) = if is x then zero else suc (place_by is xs)

-- the first of those that are alike, where met says which stand before them
abbrev pub firsts_after : {X : Type 0} → (X → X → Bool) → (X → Bool) → List X → List X
firsts_after same met [] = []
firsts_after same met (x ∷ xs) = if met x then firsts_after same met xs else x ∷ firsts_after same (λ y. met y || same y x) xs

-- the first of those that are alike
abbrev pub firsts : {X : Type 0} → (X → X → Bool) → List X → List X
firsts same xs = firsts_after same (λ y. false) xs
