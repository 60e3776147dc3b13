-- The labels of objects, from their lines.
use Rattle.arch_compile.proofs.Common.{Entry, List, [], ap, arith, labelled, length, map, refl, ℕ, ◌∷◌, ◌≡◌}

-- the labels that stand beside names, in order
pub labels_beside : (entries : List Entry) (labels : List ℕ) → length entries ≡ length labels
    → map (λ (o : List ℕ × ℕ). o.1) (labelled entries labels) ≡ labels
labels_beside [] [] h = refl
labels_beside [] (l ∷ ls) h = absurd (omega (arith, h))
labels_beside (e ∷ es) [] h = absurd (omega (arith, h))
labels_beside (e ∷ es) (l ∷ ls) h = ap (λ z. l ∷ z) (labels_beside es ls (omega (arith, h)))
