-- What holds of each element of a list.
use Rattle.cap_model.proofs.Common.{List, [], ◌∷◌}

abbrev pub Each : {A : Type 0} → (A → Type 0) → List A → Type 0
Each p [] = Unit {0}
Each p (x ∷ xs) = p x × Each p xs

pub each_then : {A : Type 0} (p q : A → Type 0) (xs : List A) → ((x : A) → p x → q x) → Each p xs → Each q xs
each_then p q [] f e = tt
each_then p q (x ∷ xs) f e = (f x e.0, each_then p q xs f e.1)
