-- What the numbers of classes tell of labels.
use Rattle.cap_model.proofs.Common.{Bool, Edge, IsClassOf, List, None, Option, OutAlike, Some, edge, false, has, refl, sym, true, ℕ, ◌∙◌, ◌≡◌}

not_there : (b : Bool) → (b ≡ true → ⊥) → b ≡ false
not_there true none = absurd (none refl)
not_there false none = refl

-- labels whose classes have one number are alike
pub class_alike : (edges : List Edge) (l m : ℕ) (n : Option ℕ) → IsClassOf edges l n → IsClassOf edges m n → OutAlike edges l m
class_alike edges l m None p q a x other = not_there (has edges (edge l a x)) (p a x other)
    ∙ sym (not_there (has edges (edge m a x)) (q a x other))
class_alike edges l m (Some n) p q a x other = p.alike a x other ∙ sym (q.alike a x other)
