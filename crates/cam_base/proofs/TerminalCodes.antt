-- Sets of codes, as lists.
use Rattle.cam_base.proofs.Common.{Bool, List, [], among, and_parts, apart, cases_Bool, cond, eqb-true, false, inl, inr, refl, rules, same, starts, true, ℕ, ◌++◌, ◌∷◌, ◌≡◌}
use Rattle.std.specs.Prelude.{◌==◌}

pub if_true : {A : Type 0} (b : Bool) (x y : A) → b ≡ true → cond b x y ≡ x
if_true b x y e = rw e refl

pub if_false : {A : Type 0} (b : Bool) (x y : A) → b ≡ false → cond b x y ≡ y
if_false b x y e = rw e refl

pub true_is_not_false : {A : Type 0} (b : Bool) → b ≡ true → b ≡ false → A
true_is_not_false b p q = absurd cc

cond_true : (b c : Bool) → c ≡ true → cond b true c ≡ true
cond_true true c e = refl
cond_true false c e = e

cond_of : (b c d : Bool) → (c ≡ true → d ≡ true) → cond b true c ≡ true → cond b true d ≡ true
cond_of true c d f e = refl
cond_of false c d f e = f e

pub among-left : (cs ds : List ℕ) (c : ℕ) → among cs c ≡ true → among (cs ++ ds) c ≡ true
among-left [] ds c e = absurd cc
among-left (d ∷ cs) ds c e = cond_of (c == d) (among cs c) (among (cs ++ ds) c) (among-left cs ds c) e

pub among-right : (cs ds : List ℕ) (c : ℕ) → among ds c ≡ true → among (cs ++ ds) c ≡ true
among-right [] ds c e = e
among-right (d ∷ cs) ds c e = cond_true (c == d) (among (cs ++ ds) c) (among-right cs ds c e)

pub none-left : (cs ds : List ℕ) (c : ℕ) → among (cs ++ ds) c ≡ false → among cs c ≡ false
none-left cs ds c e = elim (cases_Bool (among cs c)) [ inl h ↦ true_is_not_false _ (among-left cs ds c h) e | inr h ↦ h ]

pub none-right : (cs ds : List ℕ) (c : ℕ) → among (cs ++ ds) c ≡ false → among ds c ≡ false
none-right cs ds c e = elim (cases_Bool (among ds c)) [ inl h ↦ true_is_not_false _ (among-right cs ds c h) e | inr h ↦ h ]

apart_step : (a c d : Bool) → cond a false d ≡ true → (a ≡ false) × (d ≡ true)
apart_step true c d e = absurd cc
apart_step false c d e = (refl, e)

apart_cons : (d : ℕ) (cs ds : List ℕ) (c : ℕ) (same : Bool) → (same ≡ true → c ≡ d) → among ds d ≡ false
    → (among cs c ≡ true → among ds c ≡ false) → cond same true (among cs c) ≡ true → among ds c ≡ false
apart_cons d cs ds c true is none others e = rw (is refl) none
apart_cons d cs ds c false is none others e = others e

-- what is in the one is not in the other
pub apart_none : (cs ds : List ℕ) (c : ℕ) → apart cs ds ≡ true → among cs c ≡ true → among ds c ≡ false
apart_none [] ds c p e = absurd cc
apart_none (d ∷ cs) ds c p e =
    let s = apart_step (among ds d) true (apart cs ds) p in
    apart_cons d cs ds c (c == d) (eqb-true c d) s.0 (apart_none cs ds c s.1) e

pub same_is : (cs ds : List ℕ) → same cs ds ≡ true → cs ≡ ds
same_is [] [] e = refl
same_is [] (d ∷ ds) e = absurd cc
same_is (c ∷ cs) [] e = absurd cc
same_is (c ∷ cs) (d ∷ ds) e =
    let p = and_parts (c == d) (same cs ds) e in
    rw (eqb-true c d p.0, same_is cs ds p.1) refl

module _ {T : Type 0} (code : T → ℕ) where
  pub starts_none-left : (cs ds : List ℕ) (ts : List T) → starts code (cs ++ ds) ts ≡ false → starts code cs ts ≡ false
  starts_none-left cs ds [] e = refl
  starts_none-left cs ds (t ∷ ts) e = none-left cs ds (code t) e

  pub starts_none-right : (cs ds : List ℕ) (ts : List T) → starts code (cs ++ ds) ts ≡ false → starts code ds ts ≡ false
  starts_none-right cs ds [] e = refl
  starts_none-right cs ds (t ∷ ts) e = none-right cs ds (code t) e

  -- what starts with the one does not start with the other
  pub starts_apart : (cs ds : List ℕ) (ts : List T) → apart cs ds ≡ true → starts code cs ts ≡ true → starts code ds ts ≡ false
  starts_apart cs ds [] p e = absurd cc
  starts_apart cs ds (t ∷ ts) p e = apart_none cs ds (code t) p e

  pub starts_apart_back : (cs ds : List ℕ) (ts : List T) → apart cs ds ≡ true → starts code ds ts ≡ true
      → starts code cs ts ≡ false
  starts_apart_back cs ds ts p e = search (rules, cases_Bool, true_is_not_false, starts_apart)
