-- The search for all that a component holds.
use Rattle.adl_hierarchy.proofs.Common.{Bool, HasMore, Holds, List, Numbers, [], ap, arith, both_ways, cases_lt, eqb-true, false, false≢true, get_or, get_or-take, get_or_default, has, inl, inner_of, inr, length, list_any_more, or_cases, or_left}
use Rattle.adl_hierarchy.proofs.Common.{or_right, refl, rules, suc, sym, take, take-length, true, with_number, ℕ, ◌+◌, ◌<◌, ◌||◌, ◌∙◌, ◌∷◌, ◌≡◌, ◌≤◌, ◌⊎◌}
use lib.Dec.{eqb}
use Rattle.adl_hierarchy.proofs.Marks.{has_at, has-with_number, take-with_number, length-with_number}
use Rattle.adl_hierarchy.proofs.Walks.{walk_more, closed_walk}

-- what a read of the graph gives
pub inner_at : (g : List (List ℕ)) (a : ℕ) (x : List ℕ) → a < length g → x ≡ get_or g a x → x ≡ inner_of g a
inner_at g a x h e = e ∙ get_or_default g a x [] h

pub below_next : (a x : ℕ) → x < a + 1 → (x < a) ⊎ (x ≡ a)
below_next a x h = elim (cases_lt x a) [ inl l ↦ inl l | inr l ↦ inr (omega arith) ]

-- ---- numbers put in one by one

or_none : (b : Bool) → b ≡ (b || false)
or_none true = refl
or_none false = refl

or_three : (p q r : Bool) → ((p || q) || (r || false)) ≡ (p || (q || r))
or_three true q r = refl
or_three false true r = refl
or_three false false true = refl
or_three false false false = refl

pub more_none : (set : Numbers) → HasMore [] set set
more_none set = record { size = refl; front = take-length set.list; longer = omega arith; each = λ x. or_none (has set.list x) }

pub more_next : (xs : List ℕ) (old mid new : Numbers) (i : ℕ) → i < length xs → HasMore (take i xs) old mid
    → new ≡ record { size = mid.size; list = with_number mid.list (get_or xs i 0) } → HasMore (take (i + 1) xs) old new
more_next xs old mid new i h m e =
    let a : ℕ = get_or xs i 0 in
    let list : new.list ≡ with_number mid.list a = ap (λ s. s.list) e in
    let len : length new.list ≡ length (with_number mid.list a) = ap length list in
    record {
      size = ap (λ s. s.size) e ∙ m.size;
      front = ap (take (length old.list)) list ∙ take-with_number (length old.list) mid.list a m.longer ∙ m.front;
      longer = omega (arith, len, length-with_number mid.list a);
      each = λ x. ap (λ ys. has ys x) list ∙ has-with_number mid.list a x ∙ ap (λ b. b || has (a ∷ []) x) (m.each x)
          ∙ or_three (has old.list x) (has (take i xs) x) (eqb x a) ∙ ap (λ b. has old.list x || b)
          (sym (list_any_more (eqb x) xs i 0 h));
    }

-- ---- the search

-- what is found so far, and the inner ones of the first n
pub record IsReach (g : List (List ℕ)) (from : ℕ) (set : Numbers) (n : ℕ) : Type 0 where
  pub size : set.size ≡ length g
  pub first : has set.list from ≡ true
  pub held : (x : ℕ) → has set.list x ≡ true → Holds g from x
  pub upto : n ≤ length set.list
  pub closed : (i c : ℕ) → i < n → has (inner_of g (get_or set.list i 0)) c ≡ true → has set.list c ≡ true

pub reach_new : (g : List (List ℕ)) (from : ℕ) (set : Numbers) → set ≡ record { size = length g; list = from ∷ [] }
    → IsReach g from set 0
reach_new g from set e = search (rules, has_at, or_cases, eqb, eqb-true)

pub reach_more : (g : List (List ℕ)) (from : ℕ) (set new : Numbers) (n : ℕ) → n < length set.list → IsReach g from set n
    → HasMore (inner_of g (get_or set.list n 0)) set new → IsReach g from new (n + 1)
reach_more g from set new n h r m =
    let longer = m.longer in
    let same : (i : ℕ) → i < length set.list → get_or new.list i 0 ≡ get_or set.list i 0 = search (rules, get_or-take) in
    record {
      size = m.size ∙ r.size;
      first = m.each from ∙ or_left _ _ r.first;
      held = λ x e. elim (or_cases (has set.list x) (has (inner_of g (get_or set.list n 0)) x) (sym (m.each x) ∙ e)) [
        | inl p ↦ r.held x p
        | inr p ↦ let k : Holds g from (get_or set.list n 0) = r.held (get_or set.list n 0) (has_at set.list n h) in
            (suc k.0, walk_more g k.0 from (get_or set.list n 0) x k.1 p)
      ];
      upto = omega arith;
      closed = search (rules, below_next, or_left, or_right);
    }

-- a number in the list stands somewhere in it
place : (xs : List ℕ) (x : ℕ) → has xs x ≡ true → (i : ℕ) × (i < length xs) × (get_or xs i 0 ≡ x)
place [] x e = absurd (false≢true e)
place (y ∷ ys) x e = elim (or_cases (eqb x y) (has ys x) e) [
  | inl p ↦ (0, omega arith, sym (eqb-true x y p))
  | inr p ↦ let k : (i : ℕ) × (i < length ys) × (get_or ys i 0 ≡ x) = place ys x p in (suc k.0, omega (arith, k.1), k.2)
]

-- at the end what isn't found isn't held
pub reach_end : (g : List (List ℕ)) (from to : ℕ) (set : Numbers) (n : ℕ) → IsReach g from set n → length set.list ≤ n
    → has set.list to ≡ false → Holds g from to → ⊥
reach_end g from to set n r h e k = search (rules, both_ways, closed_walk, place)
