-- Texts that are said of the items of a list, one after another.
use Rattle.policy_text.proofs.Common.{List, Says, [], ap, append-nil, flat_map, says_more, subst, sym, ℕ, ◌++◌, ◌∙◌, ◌∷◌, ◌≡◌}
use Rattle.std.proofs.lemmas.List.Concat.{flat_map-append}
use Rattle.cam_io.specs.declared.outputs.Outputs.{Ghosts}
use Rattle.cam_io.specs.declared.writer.Writer.{Writer}

module _ {O : Type 0} {T : Ghosts O} {X : Type 0} (f : X → List ℕ) where
  pub says_next : {u v w : Writer O T} (xs : List X) (x : X) → Says u (flat_map f xs) v → Says v (f x) w
      → Says u (flat_map f (xs ++ x ∷ [])) w
  says_next {u} {v} {w} xs x a b = subst (λ (t : List ℕ). Says u t w) (sym (flat_map-append f xs (x ∷ [])
      ∙ ap (λ t. flat_map f xs ++ t) (append-nil (f x)))) (says_more a b)

  pub says_end : {u v : Writer O T} (xs rest all : List X) → xs ++ rest ≡ all → rest ≡ [] → Says u (flat_map f xs) v
      → Says u (flat_map f all) v
  says_end {u} {v} xs rest all is none a = subst (λ (ys : List X). Says u (flat_map f ys) v) (sym (append-nil xs)
      ∙ ap (λ ys. xs ++ ys) (sym none) ∙ is) a
