-- Items without their places.
use Rattle.adl_items.proofs.Common.{List, [], ap, located, map, refl, trees, ◌∷◌, ◌≡◌}
use Rattle.adl_items.specs.declared.located.Located.{Located}

pub trees-located : {T : Type 0} (xs : List (Located T)) → trees xs ≡ map (λ c. c.1) (map located xs)
trees-located [] = refl
trees-located (x ∷ xs) = ap (λ z. x.item.now ∷ z) (trees-located xs)
