-- Numbers compared.
use Rattle.cam_base.proofs.Common.{Bool, Equal, Greater, Less, Ordering, arith, false, nat_lt, nat_tests, refl, true, ℕ, ◌<◌, ◌≡◌}
use Rattle.std.specs.Ordering.{is_eq, nat_cmp}
use Rattle.std.specs.Prelude.{◌==◌}

pub same_itself : (a : ℕ) → a == a ≡ true
same_itself a = grind arith

pub nat_cmp-greater : (k n : ℕ) → n < k → nat_cmp k n ≡ Greater
nat_cmp-greater k n h = grind arith

pub is_equal : (o : Ordering) → is_eq o ≡ true → o ≡ Equal
is_equal Less e = absurd cc
is_equal Equal e = refl
is_equal Greater e = absurd cc

pub is_eq-nat_cmp : (k q : ℕ) → is_eq (nat_cmp k q) ≡ (k == q)
is_eq-nat_cmp k q = go (nat_lt k q) (k == q) refl refl
  where
    go : (a b : Bool) → nat_lt k q ≡ a → (k == q) ≡ b → is_eq (nat_cmp k q) ≡ (k == q)
    go true true l s = absurd (grind (arith, nat_tests))
    go true false l s = rw (l, s) refl
    go false true l s = rw (l, s) refl
    go false false l s = rw (l, s) refl
