-- A set of words with one word more.
use Rattle.policy_text.proofs.Common.{Bool, IsAdded, IsNear, List, Words, [], ap, bytes_eq, false, or_comm, refl, rules, true, ℕ, ◌++◌, ◌||◌, ◌∙◌, ◌∷◌, ◌≡◌}
use Rattle.std.specs.Borrow.{Bor}
use Rattle.policy_text.proofs.Before.{any_more}

-- the words that are found by their place stay in the set
pub still_near : (near : List (Bor (List ℕ))) (old new : Words) (word : List ℕ) → IsAdded word old new → IsNear near old
    → IsNear near new
still_near near old new word added before n h = added.each n ∙ ap (λ (b : Bool). bytes_eq word n || b) (before n h)
    ∙ or_comm (bytes_eq word n) true

pub near_pushed : (near : List (Bor (List ℕ))) (old new : Words) (w : Bor (List ℕ)) → IsAdded w.now old new → IsNear near old
    → IsNear (near ++ w ∷ []) new
near_pushed near old new w added before n h = search (rules, still_near, any_more)
