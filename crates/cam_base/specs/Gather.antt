-- Lists that are made of what each element gives, where the element's place is known.
use Rattle.std.specs.Prelude.{◌≡◌, ◌⊎◌, ℕ, suc, List, [], ◌∷◌, ◌++◌, length, take}

-- what f gives for each place and element, one behind another
abbrev pub gather : {X Y : Type 0} → (ℕ → X → List Y) → List X → List Y
gather f [] = []
gather f (x ∷ xs) = f 0 x ++ gather (λ k y. f (suc k) y) xs

-- how many things the elements before place k give: numbers and addresses are such sums
abbrev pub before : {X Y : Type 0} → (ℕ → X → List Y) → List X → ℕ → ℕ
before f xs k = length (gather f (take k xs))

-- x is one of the list
abbrev pub IsIn : {X : Type 0} → X → List X → Type 0
IsIn x [] = ⊥
IsIn x (y ∷ ys) = (y ≡ x) ⊎ IsIn x ys
