-- Interrupt lines by number have what they are made of
use Rattle.spec_laws.proofs.Common.{IsIn, List, Option, Some, [], by_number, put_line, ℕ, ◌∷◌, ◌≡◌, arith}

put_has : (x y : ℕ × ℕ) (xs : List (ℕ × ℕ)) → IsIn y (x ∷ xs) → IsIn y (put_line x xs)
put_has x y [] i = i
put_has x y (z ∷ zs) i = grind (arith, put_has x y zs)

pub order_has : (y : ℕ × ℕ) (xs : List (ℕ × ℕ)) → IsIn y xs → IsIn y (by_number xs)
order_has y [] i = i
order_has y (x ∷ xs) i = grind (arith, put_has x y (by_number xs), order_has y xs)

pub from_put : (x y : ℕ × ℕ) (xs : List (ℕ × ℕ)) → IsIn y (put_line x xs) → IsIn y (x ∷ xs)
from_put x y [] i = i
from_put x y (z ∷ zs) i = grind (arith, from_put x y zs)

pub from_order : (y : ℕ × ℕ) (xs : List (ℕ × ℕ)) → IsIn y (by_number xs) → IsIn y xs
from_order y [] i = i
from_order y (x ∷ xs) i = grind (arith, from_put x y (by_number xs), from_order y xs)

-- ---- single thing

pub some : {X : Type 0} (o : Option X) (a b : X) → o ≡ Some a → o ≡ Some b → a ≡ b
some o a b e f = cc
