-- Loops that take what a list has, one after another.
use Rattle.cspace_layout.proofs.Common.{List, Option, Some, [], ap, append-nil, append_assoc, gather, length, map-id, refl, slice_get, slice_get_read, suc, sym, take, ℕ, ◌++◌, ◌∙◌, ◌∷◌, ◌≡◌}
use Rattle.std.specs.Iterator.{Yields}
use Rattle.std.specs.Vec.Iter.{into_iter_items, into_iter_len, into_iter_steps}
use Rattle.std.proofs.lemmas.Iterator.Adapters.{YieldsList-from_vec}
use Rattle.std.proofs.lemmas.Iterator.Consumers.{YieldsList-so_far, YieldsList-turn}

-- what was taken is a front of the list, and what is taken next stands behind it
pub record Turned {A : Type 0} (all xs : List A) (x : A) : Type 0 where
  pub front : xs ≡ take (length xs) all
  pub here : slice_get all (length xs) ≡ Some x

pub turned : {A Z : Type 0} (s t u : _) (all : List A) → into_iter_items s ≡ all → into_iter_len s ≡ length all → (xs : List A)
    → Yields (into_iter_steps {X = A} {Z = Z}) s xs t → (r : Option A) (x : A) → r ≡ Some x
    → into_iter_steps {X = A} {Z = Z} t r u
    → Turned all xs x
turned {A} {Z} s t u all e n xs y r x is step =
    let road = YieldsList-from_vec {A = A} {Z = Z} {s = s} all e n in
    let turn = YieldsList-turn road xs t y r u x is step in
    record {
      front = sym (map-id xs) ∙ YieldsList-so_far road xs t y;
      here = slice_get_read all (length all) (length xs) x refl
          turn.0 turn.1;
    }

pub gather_push : {X Y : Type 0} (f : ℕ → X → List Y) (xs : List X) (x : X) → gather f (xs ++ x ∷ []) ≡ gather f xs
    ++ f (length xs) x
gather_push f [] x = append-nil (f 0 x)
gather_push f (z ∷ xs) x = ap (λ w. f 0 z ++ w) (gather_push (λ k y. f (suc k) y) xs x)
    ∙ sym (append_assoc (f 0 z) _ (f (suc (length xs)) x))
