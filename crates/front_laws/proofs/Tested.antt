-- Faults that stand where a test holds, or doesn't.
use Rattle.front_laws.proofs.Common.{Bool, Fault, IsIn, false, inl, inr, refl, true, where_false, where_true, ◌≡◌}

pub from_true : (b : Bool) (g f : Fault) → IsIn f (where_true b g) → (b ≡ true) × (g ≡ f)
from_true true g f (inl e) = (refl, e)
from_true true g f (inr i) = absurd i
from_true false g f i = absurd i

pub in_true : (b : Bool) (g : Fault) → b ≡ true → IsIn g (where_true b g)
in_true true g e = inl refl
in_true false g e = cc

pub from_false : (b : Bool) (g f : Fault) → IsIn f (where_false b g) → (b ≡ false) × (g ≡ f)
from_false false g f (inl e) = (refl, e)
from_false false g f (inr i) = absurd i
from_false true g f i = absurd i

pub in_false : (b : Bool) (g : Fault) → b ≡ false → IsIn g (where_false b g)
in_false false g e = inl refl
in_false true g e = cc
