-- What stands behind a comment is no longer than the comment and it.
use Rattle.cam_base.proofs.Common.{Bool, List, Some, [], arith, cond, false, length, true, ℕ, ◌&&◌, ◌∷◌, ◌≡◌, ◌≤◌}
use Rattle.cam_base.proofs.Options.{none_is_not}
use Rattle.cam_base.specs.Comments.{after_close}
use Rattle.std.proofs.lemmas.Option.{same_Some}
use Rattle.std.specs.Prelude.{◌==◌}

pub after_close_le : (bs cs : List ℕ) → after_close bs ≡ Some cs → length cs ≤ length bs
after_close_le [] cs e = none_is_not cs e
after_close_le (a ∷ []) cs e = none_is_not cs e
after_close_le (a ∷ b ∷ bs) cs e = go (a == 42 && b == 47) (λ p. after_close_le (b ∷ bs) cs p) e
  where
    go : (t : Bool) → (after_close (b ∷ bs) ≡ Some cs → length cs ≤ length (b ∷ bs))
        → cond t (Some bs) (after_close (b ∷ bs)) ≡ Some cs → length cs ≤ length (a ∷ b ∷ bs)
    go true ih p = let same = same_Some bs cs p in rw (← same) (omega arith)
    go false ih p = let le = ih p in omega arith
