-- The search for cycles.
use Rattle.adl_hierarchy.proofs.Common.{AreCycleNumbers, AreHeldBy, AreRoots, Holds, InRange, IsTurned, List, TellCycles, Walk, [], arith, both_ways, cases_eq, eq-eqb, eqb-true, false≢true, get_or, get_or-set_other, get_or-set_same, has}
use Rattle.adl_hierarchy.proofs.Common.{inner_of, is_held, length, length-set, refl, rules, set, subst, suc, sym, true, zero, ℕ, ◌++◌, ◌<◌, ◌∷◌, ◌≡◌, ◌⊎◌}
use lib.Dec.{eqb}
use Rattle.adl_hierarchy.proofs.Cycling.{exact}
use Rattle.adl_hierarchy.proofs.Marks.{has_new, has_old, has_pushed}
use Rattle.adl_hierarchy.proofs.Through.{held_test}
use Rattle.adl_hierarchy.proofs.Waiting.{in_set, with_waiting}
use Rattle.adl_hierarchy.proofs.Walks.{walk_more}

-- ---- the graph turned round

-- one component more that a number is an inner one of
pub turned_more : (ws old : List (List ℕ)) (inner : List ℕ) (a d : ℕ) → d < length ws → has inner d ≡ true
    → ((c x : ℕ) → has (inner_of ws c) x ≡ true → ((x ≡ a) × (has inner c ≡ true)) ⊎ (has (inner_of old c) x ≡ true))
    → (c x : ℕ) → has (inner_of (with_waiting ws d a) c) x ≡ true → ((x ≡ a) × (has inner c ≡ true))
    ⊎ (has (inner_of old c) x ≡ true)
turned_more ws old inner a d l e edges c x h = search (rules, in_set, has_pushed)

turned_walk : (g turned : List (List ℕ)) → IsTurned g turned → (n a b : ℕ) → Walk turned a b n → Holds g b a
turned_walk g turned t zero a b w = (0, sym w)
turned_walk g turned t (suc n) a b w =
    let k = turned_walk g turned t n w.0 b w.2 in
    (suc k.0, walk_more g k.0 b w.0 a k.1 (t.edges a w.0 w.1).1)

-- ---- roots

pub one_more : (g : List (List ℕ)) (root component inner : ℕ) → Holds g root component → has (inner_of g component) inner ≡ true
    → Holds g root inner
one_more g root component inner k e = (suc k.0, walk_more g k.0 root component inner k.1 e)

pub root_more : (g : List (List ℕ)) (roots : List ℕ) (root d : ℕ) → AreRoots g roots → d < length g → Holds g root d
    → AreRoots g (set roots d root)
root_more g roots root d are l k = search (rules, length-set, cases_eq, set, get_or-set_same, get_or-set_other)

pub held_more : (g : List (List ℕ)) (root d : ℕ) (waiting : List ℕ) → AreHeldBy g root waiting → d < length g → Holds g root d
    → AreHeldBy g root (waiting ++ d ∷ [])
held_more g root d waiting are l k x e = search (rules, has_pushed)

pub held_first : (g : List (List ℕ)) (root : ℕ) → root < length g → AreHeldBy g root (root ∷ [])
held_first g root l = held_more g root root [] (λ x e. absurd (false≢true e)) l (0, refl)

-- ---- the test

pub told : (g turned : List (List ℕ)) (roots others ranks : List ℕ) → InRange g → IsTurned g turned → AreRoots g roots
    → AreRoots turned others → ((x : ℕ) → x < length g → (get_or roots x 0 < length g) × (get_or roots x 0 ≡ get_or others x 0))
    → ((a c : ℕ) → a < length g → has (inner_of g a) c ≡ true → (get_or roots c 0 ≡ get_or roots a 0)
    ⊎ (get_or ranks (get_or roots a 0) 0 < get_or ranks (get_or roots c 0) 0)) → TellCycles g roots
told g turned roots others ranks r t are areothers agree rises =
    let numbers : AreCycleNumbers g (λ x. get_or roots x 0) (λ x. get_or ranks x 0) = record {
      rises = rises;
      inwards = λ a l.
          let k = agree a l in
          let s = t.size in
          let low = k.0 in
          let la : a < length turned = omega arith in
          let lo : get_or others a 0 < length turned = omega arith in
          let w = areothers.held a la lo in
          subst (λ y. Holds g a y) (sym k.1) (turned_walk g turned t w.0 (get_or others a 0) a w.1);
      outwards = λ a l. are.held a l (agree a l).0;
    } in
    record { size = are.size; exact = exact g r (λ x. get_or roots x 0) (λ x. get_or ranks x 0) numbers }

-- ---- what waits

pub last_below : (xs ys : List ℕ) (a n : ℕ) → xs ≡ ys ++ a ∷ [] → ((x : ℕ) → has xs x ≡ true → x < n) → a < n
last_below xs ys a n e below = below a (let P : List ℕ → Type 0 = λ zs. has zs a ≡ true in subst P (sym e) (has_new ys a))

pub rest_below : (xs ys : List ℕ) (a n : ℕ) → xs ≡ ys ++ a ∷ [] → ((x : ℕ) → has xs x ≡ true → x < n) → (x : ℕ)
    → has ys x ≡ true → x < n
rest_below xs ys a n e below x h = below x (let P : List ℕ → Type 0 = λ zs. has zs x ≡ true in subst P (sym e) (has_old ys a x h))

pub more_below : (xs ys : List ℕ) (a n : ℕ) → ys ≡ xs ++ a ∷ [] → ((x : ℕ) → has xs x ≡ true → x < n) → a < n → (x : ℕ)
    → has ys x ≡ true → x < n
more_below xs ys a n e below l x h = grind (arith, has_pushed)

-- the comparison of two numbers is the test of holding
pub told_test : (g : List (List ℕ)) (numbers : List ℕ) → InRange g → TellCycles g numbers → (a c : ℕ) → a < length g
    → has (inner_of g a) c ≡ true → eqb (get_or numbers c 0) (get_or numbers a 0) ≡ is_held g c a
told_test g numbers r t a c l e =
    let x = t.exact a c l e in
    held_test g r c a (r a c l e) (eqb (get_or numbers c 0) (get_or numbers a 0)) (λ s. x.0 (eqb-true _ _ s))
    (λ s k. both_ways _ s (eq-eqb _ _ (x.1 k)))
