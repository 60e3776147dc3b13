-- Texts that a loop puts together.
use Rattle.cam_base.proofs.Common.{List, flat_map, flat_map-map, map, ℕ, ◌≡◌}
use Rattle.cam_base.specs.Texts.{together}

pub join_map : {X : Type 0} (f : X → List ℕ) (xs : List X) → flat_map (λ x. x) (map f xs) ≡ flat_map f xs
join_map f xs = flat_map-map (λ x. x) f xs

pub together_map : {X : Type 0} (f : X → List ℕ) (xs : List X) → together (map f xs) ≡ flat_map f xs
unfolding together
together_map f xs = join_map f xs
