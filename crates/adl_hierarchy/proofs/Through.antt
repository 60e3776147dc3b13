-- The test of holding agrees with walks.
use Rattle.adl_hierarchy.proofs.Common.{Bool, Holds, InRange, IsAcyclic, List, Walk, and_from, and_parts, arith, cases_eq, eq-eqb, eqb-true, false, false_from_ne_true, has, inl, inner_of, inr, is_held, length, or_cases, or_left, or_right, refl}
use Rattle.adl_hierarchy.proofs.Common.{rules, subst, suc, sym, through, true, zero, ℕ, ◌&&◌, ◌<◌, ◌≡◌}
use lib.Dec.{eqb}

pub walk_join : (g : List (List ℕ)) (n m a b c : ℕ) → Walk g a b n → Walk g b c m → Holds g a c
walk_join g zero m a b c v w = (m, let P : ℕ → Type 0 = λ x. Walk g x c m in subst P (sym v) w)
walk_join g (suc n) m a b c v w = let k : Holds g v.0 c = walk_join g n m v.0 b c v.2 w in (suc k.0, (v.0, v.1, k.1))

pub through_sound : (g : List (List ℕ)) (k a b : ℕ) → through g k a b ≡ true → Holds g a b
through_sound g zero a b e = elim (or_cases (eqb a b) (has (inner_of g a) b) e) [
  | inl p ↦ (0, eqb-true a b p)
  | inr p ↦
      (1, (b, p, refl))
]
through_sound g (suc k) a b e = elim (or_cases (through g k a b) (through g k a k && through g k k b) e) [
  | inl p ↦ through_sound g k a b p
  | inr p ↦ let q = and_parts (through g k a k) (through g k k b) p in
      let v : Holds g a k = through_sound g k a k q.0 in
      let w : Holds g k b = through_sound g k k b q.1 in
      walk_join g v.0 w.0 a k b v.1 w.1
]

direct : (g : List (List ℕ)) (k a b : ℕ) → has (inner_of g a) b ≡ true → through g k a b ≡ true
direct g zero a b e = or_right (eqb a b) (has (inner_of g a) b) e
direct g (suc k) a b e = or_left (through g k a b) _ (direct g k a b e)

itself : (g : List (List ℕ)) (k a : ℕ) → through g k a a ≡ true
itself g zero a = or_left (eqb a a) _ (eq-eqb a a refl)
itself g (suc k) a = or_left (through g k a a) _ (itself g k a)

-- one step in front
prepend : (g : List (List ℕ)) (k a c b : ℕ) → c < k → has (inner_of g a) c ≡ true → through g k c b ≡ true
    → through g k a b ≡ true
prepend g zero a c b l e t = absurd (omega arith)
prepend g (suc k) a c b l e t = elim (cases_eq c k) [
  | inl s ↦ search (rules, direct, or_cases, and_parts, or_right, and_from)
  | inr n ↦ let l' : c < k = omega arith in
      elim (or_cases (through g k c b) (through g k c k && through g k k b) t) [
        | inl p ↦ or_left (through g k a b) _ (prepend g k a c b l' e p)
        | inr p ↦ let q = and_parts (through g k c k) (through g k k b) p in
            or_right (through g k a b) (through g k a k && through g k k b) (and_from (through g k a k) (through g k k b)
            (prepend g k a c k l' e q.0) q.1)
      ]
]

pub through_complete : (g : List (List ℕ)) → InRange g → (n a b : ℕ) → a < length g → Walk g a b n → is_held g a b ≡ true
through_complete g r zero a b l w = let P : ℕ → Type 0 = λ x. is_held g a x ≡ true in subst P w (itself g (length g) a)
through_complete g r (suc n) a b l w =
    let c : w.0 < length g = r a w.0 l w.1 in
    prepend g (length g) a w.0 b c w.1 (through_complete g r n w.0 b c w.2)

-- where no component holds itself, none is held by the type of one of its instances
pub unheld : (g : List (List ℕ)) → IsAcyclic g → (a c : ℕ) → a < length g → has (inner_of g a) c ≡ true → is_held g c a ≡ false
unheld g acyclic a c l e = false_from_ne_true _ (λ t. let w : Holds g c a = through_sound g (length g) c a t in
    acyclic a c w.0 l e w.1)

-- an answer that says whether a holds b is that of the test
pub held_test : (g : List (List ℕ)) → InRange g → (a b : ℕ) → a < length g → (t : Bool) → (t ≡ true → Holds g a b)
    → (t ≡ false → Holds g a b → ⊥) → t ≡ is_held g a b
held_test g r a b l true up down = let w : Holds g a b = up refl in sym (through_complete g r w.0 a b l w.1)
held_test g r a b l false up down = sym (false_from_ne_true _ (λ t. down refl (through_sound g (length g) a b t)))
