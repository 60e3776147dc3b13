-- Texts in parts.
use Rattle.explain.proofs.Common.{List, [], flat_map, map, sym, ℕ, ◌++◌, ◌∙◌, ◌≡◌}
use Rattle.cam_base.specs.Texts.{together}
use Rattle.cam_base.proofs.Joined.{together_map}

pub row_is_together : {X : Type 0} (f : X → List ℕ) (xs : List X) (bytes : List ℕ) → bytes ≡ [] ++ flat_map f xs
    → bytes ≡ together (map f xs)
row_is_together f xs bytes e = e ∙ sym (together_map f xs)
