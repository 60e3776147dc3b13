-- What stands before the first byte that passes a test.
use Rattle.cam_base.proofs.Common.{Bool, List, None, Some, ap, arith, before_first, false, length, nat_lt, nat_tests, position, position_or_len, refl, sym, take, take_all, true, ℕ, ◌≡◌, ◌≤◌}

pub front_at : (p : ℕ → Bool) (bs : List ℕ) (n : ℕ) → position p bs ≡ Some n → take n bs ≡ before_first p bs
front_at p bs n e = go (nat_lt (position_or_len p bs) (length bs)) refl
  where
    go : (v : Bool) → nat_lt (position_or_len p bs) (length bs) ≡ v → take n bs ≡ before_first p bs
    go true t = let is : position p bs ≡ Some (position_or_len p bs) = rw t refl in ap (λ k. take k bs) (cc)
    go false t = let is : position p bs ≡ None = rw t refl in absurd cc

pub front_whole : (p : ℕ → Bool) (bs : List ℕ) → position p bs ≡ None → bs ≡ before_first p bs
front_whole p bs e = go (nat_lt (position_or_len p bs) (length bs)) refl
  where
    go : (v : Bool) → nat_lt (position_or_len p bs) (length bs) ≡ v → bs ≡ before_first p bs
    go true t = let is : position p bs ≡ Some (position_or_len p bs) = rw t refl in absurd cc
    go false t = let le : length bs ≤ position_or_len p bs = grind (arith, nat_tests) in
        sym (take_all (position_or_len p bs) bs le)

pub ruleset front_rules = (front_at, front_whole)
