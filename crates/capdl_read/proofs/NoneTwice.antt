-- Rising keys don't stand a second time.
use Rattle.capdl_read.proofs.Common.{Bool, CapdlTwice, Key, Keyed, List, None, Option, Some, TextFault, [], ap, arith, cond, false, fault, is_above, keys_after, keys_twice, map, nat_tests, noted, refl, rises, same_key, sym, true, where_true, ◌++◌}
use Rattle.capdl_read.proofs.Common.{◌||◌, ◌∙◌, ◌∷◌, ◌≡◌}
use Rattle.std.specs.Prelude.{ℕ}

-- no key above the last was met
abbrev IsFree : Option Key → (Key → Bool) → Type 0
IsFree last met = (k : Key) → is_above last k ≡ true → met k ≡ false

pub above_both : (last : Option Key) (k l : Key) → is_above last k ≡ true → is_above (Some k) l ≡ true → is_above last l ≡ true
above_both None k l a b = refl
above_both (Some m) (i, j) (n, o) a b = grind (arith, nat_tests)

other_key : (k l : Key) → is_above (Some k) l ≡ true → same_key l k ≡ false
other_key (i, j) (n, o) a = grind (arith, nat_tests)

goes_on : (b c : Bool) → cond b c false ≡ true → (b ≡ true) × (c ≡ true)
goes_on true c e = (refl, e)
goes_on false c e = absurd cc

none_after : {X : Type 0} (name : List ℕ) (g : X → Keyed) (last : Option Key) (met : Key → Bool) (xs : List X) → IsFree last met
    → rises g last xs ≡ true → keys_after name met (map g xs) ≡ []
none_after name g last met [] free e = refl
none_after name g last met (x ∷ xs) free e =
    let k = (g x).0 in
    let p = goes_on (is_above last k) (rises g (Some k) xs) e in
    let more = λ (l : Key). met l || same_key l k in
    ap (λ b. where_true b (fault CapdlTwice (g x).1 name) ++ keys_after name more (map g xs)) (free k p.0)
    ∙ none_after name g (Some k) more xs (λ l b. rw (free l (above_both last k l p.0 b), other_key k l b) refl) p.1

-- what is noted of rising keys
pub none_twice : {X : Type 0} (name : List ℕ) (g : X → Keyed) (first : Option TextFault) (xs : List X) → rises g None xs ≡ true
    → first ≡ noted first (keys_twice name (map g xs))
none_twice name g first xs e = sym (ap (noted first) (none_after name g None (λ k. false) xs (λ k a. refl) e))
