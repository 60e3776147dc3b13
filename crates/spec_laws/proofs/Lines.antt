-- Interrupt lines rise by number, and each leads to an interrupt of its own.
use Rattle.spec_laws.proofs.Common.{Bool, Connector, FlatConnection, Interrupt, IrqOf, IsFit, IsIn, IsThere, List, Notification, Part, Some, Tables, What, [], and_from, and_parts, ap, arith, by_number, cases_order}
use Rattle.spec_laws.proofs.Common.{cond, differ, eqb-true, false, false_from_ne_true, from_gather, gather, has_part, inl, inr, irq_number, is_at, keeps_lines, leb, leb-false, leb-true, length, line_by, lines, list_any, lt-ltb, ltb-true}
use Rattle.spec_laws.proofs.Common.{map, nat_lt, parts, place, put_line, refl, rise, rules, same_Some, slice_get, spec_of, stands, subst, suc, sym, true, ℕ, ◌++◌, ◌<◌, ◌==◌, ◌∙◌, ◌∷◌, ◌≡◌, ◌≤◌}
use Rattle.cap_model.specs.declared.kind.Kind.TheVariants as kinds
use Rattle.spec_laws.proofs.CapsFit.{all_pass, is_at_of}
use Rattle.spec_laws.proofs.SlotLists.{from_order, from_put}

abbrev Line : Type 0
Line = ℕ × ℕ

-- ---- what rises

rises_behind : (x : Line) (xs : List Line) → rise (x ∷ xs) ≡ true → rise xs ≡ true
rises_behind x [] r = refl
rises_behind x (y ∷ xs) r = (and_parts (nat_lt x.0 y.0) (rise (y ∷ xs)) r).1

rises_over : (x : Line) (xs : List Line) (y : Line) → rise (x ∷ xs) ≡ true → IsIn y xs → x.0 < y.0
rises_over x [] y r i = absurd i
rises_over x (z ∷ xs) y r (inl same) =
    subst (λ (w : Line). x.0 < w.0) same (ltb-true x.0 z.0 (and_parts (nat_lt x.0 z.0) (rise (z ∷ xs)) r).0)
rises_over x (z ∷ xs) y r (inr i) =
    let l : x.0 < z.0 = ltb-true x.0 z.0 (and_parts (nat_lt x.0 z.0) (rise (z ∷ xs)) r).0 in
    let m : z.0 < y.0 = rises_over z xs y (and_parts (nat_lt x.0 z.0) (rise (z ∷ xs)) r).1 i in
    omega (arith, l, m)

-- a line in front of lines that rise, each above it
rise_from : (x : Line) (xs : List Line) → rise xs ≡ true → ((y : Line) → IsIn y xs → x.0 < y.0) → rise (x ∷ xs) ≡ true
rise_from x [] r h = refl
rise_from x (y ∷ xs) r h = and_from (nat_lt x.0 y.0) (rise (y ∷ xs)) (lt-ltb x.0 y.0 (h y (inl refl))) r

-- ---- lines by number

put_rises : (x : Line) (ls : List Line) → rise ls ≡ true → ((l : Line) → IsIn l ls → x.0 ≡ l.0 → ⊥) → rise (put_line x ls) ≡ true
put_rises x [] r h = refl
put_rises x (y ∷ ys) r h = by_test (leb x.0 y.0) refl (put_rises x ys (rises_behind y ys r) (λ l i. h l (inr i))) where
  by_test : (b : Bool) → leb x.0 y.0 ≡ b → rise (put_line x ys) ≡ true → rise (cond b (x ∷ y ∷ ys) (y ∷ put_line x ys)) ≡ true
  by_test true e more =
      let below : x.0 < y.0 = elim (cases_order x.0 y.0) [
        | inl same ↦ absurd (h y (inl refl) same)
        | inr (inl less) ↦ less
        | inr (inr above) ↦ absurd (omega (arith, leb-true x.0 y.0 e, above))
      ] in
      and_from (nat_lt x.0 y.0) (rise (y ∷ ys)) (lt-ltb x.0 y.0 below) r
  by_test false e more = grind (arith, rise_from, from_put, leb-false, rises_over)

-- lines of elements, each of which gives one at most, and no two of one number
sorted_rise : {X : Type 0} (f : ℕ → X → List Line) (xs : List X) → ((k : ℕ) (x : X) → length (f k x) ≤ 1)
    → ((j k : ℕ) (a b : X) (l m : Line) → slice_get xs j ≡ Some a → slice_get xs k ≡ Some b → IsIn l (f j a) → IsIn m (f k b)
    → l.0 ≡ m.0 → j ≡ k) → rise (by_number (gather f xs)) ≡ true
sorted_rise f [] few one = refl
sorted_rise {X} f (x ∷ xs) few one =
    let g : ℕ → X → List Line = λ k y. f (suc k) y in
    let behind : rise (by_number (gather g xs)) ≡ true = sorted_rise g xs (λ k y. few (suc k) y)
    (λ j k a b l m p q i o s. let e : suc j ≡ suc k = one (suc j) (suc k) a b l m p q i o s in omega (arith, e)) in
    by_list (f 0 x) refl behind where
      by_list : (ls : List Line) → f 0 x ≡ ls → rise (by_number (gather (λ k y. f (suc k) y) xs)) ≡ true
          → rise (by_number (ls ++ gather (λ k y. f (suc k) y) xs)) ≡ true
      by_list [] e behind = behind
      by_list (l ∷ []) e behind =
          put_rises l (by_number (gather (λ k y. f (suc k) y) xs)) behind (λ m i s. let c = from_gather (λ k y. f (suc k) y) m xs
          (from_order m (gather (λ k y. f (suc k) y) xs) i) in let n : 0 ≡ suc c.0 = one 0 (suc c.0) x c.1 l m refl c.2
          (subst (λ z. IsIn l z) (sym e) (inl refl)) c.3 s in absurd (omega (arith, n)))
      by_list (l ∷ m ∷ ls) e behind = let long = few 0 x in let s : length (f 0 x) ≡ length (l ∷ m ∷ ls) = ap (λ z. length z) e in
          absurd (omega (arith, long, s))

-- where things that lead to one place have one number, no two of what rises lead to one place
places_differ : (ls : List Line) → rise ls ≡ true → ((x y : Line) → IsIn x ls → IsIn y ls → x.1 ≡ y.1 → x.0 ≡ y.0)
    → differ (λ a b. a == b) (map (λ (l : Line). l.1) ls) ≡ true
places_differ [] r h = refl
places_differ (x ∷ ls) r h =
    rw (none_at ls (λ y i. other y i)) (places_differ ls (rises_behind x ls r) (λ y z i j. h y z (inr i) (inr j))) where
      other : (y : Line) → IsIn y ls → y.1 == x.1 ≡ false
      other y i = false_from_ne_true (y.1 == x.1) (λ e. let l : x.0 < y.0 = rises_over x ls y r i in
          let s : y.0 ≡ x.0 = h y x (inr i) (inl refl) (eqb-true y.1 x.1 e) in omega (arith, l, s))

      none_at : (ms : List Line) → ((y : Line) → IsIn y ms → y.1 == x.1 ≡ false)
          → list_any (λ z. z == x.1) (map (λ (l : Line). l.1) ms) ≡ false
      none_at [] g = refl
      none_at (y ∷ ms) g = rw (g y (inl refl)) (none_at ms (λ z i. g z (inr i)))

-- ---- the lines of connections

pub one_each : (t : Tables) (k : ℕ) (c : FlatConnection) (x : Connector) → length (line_by t k c x) ≤ 1
one_each t k c Notification = omega arith
one_each t k c _ = omega arith

module _ (t : Tables) (fit : IsFit t) where
  from_line : (l : Line) (k : ℕ) (c : FlatConnection) (x : Connector) → IsIn l (line_by t k c x)
      → (x ≡ Interrupt) × ((irq_number t.settled k c, place t (IrqOf k)) ≡ l)
  from_line l k c Interrupt (inl same) = (refl, same)
  from_line l k c Interrupt (inr i) = absurd i
  from_line l k c _ i = absurd i

  lines_rise : rise (lines t) ≡ true
  lines_rise = search (rules, sorted_rise, one_each, from_line)

  -- the connection of a line
  pub record Lined (l : Line) : Type 0 where
    pub number : ℕ
    pub there : IsThere t (IrqOf number)
    pub is : (irq_number t.settled number there.0, place t (IrqOf number)) ≡ l

  pub lined : (l : Line) → IsIn l (lines t) → Lined l
  lined l i =
      let f : ℕ → FlatConnection → List Line = λ k (c : FlatConnection). line_by t k c c.connector in
      let g = from_gather f l t.flat.connections (from_order l (gather f t.flat.connections) i) in
      let w = from_line l g.0 g.1 g.1.connector g.3 in
      record { number = g.0; there = (g.1, g.2, w.0); is = w.1 }

  -- an interrupt's place tells its connection
  one_place : (j k : ℕ) → IsThere t (IrqOf j) → IsThere t (IrqOf k) → place t (IrqOf j) ≡ place t (IrqOf k) → j ≡ k
  one_place j k a b same =
      let p = has_part t (IrqOf j) a in let q = has_part t (IrqOf k) b in
      let e : slice_get (parts t) (place t (IrqOf j)) ≡ Some p.0 = ap (λ w. slice_get (parts t) (place t w)) (sym p.2)
      ∙ stands t p.0 p.1 in
      let f : slice_get (parts t) (place t (IrqOf k)) ≡ Some q.0 = ap (λ w. slice_get (parts t) (place t w)) (sym q.2)
      ∙ stands t q.0 q.1 in
      ap of_irq (sym p.2 ∙ ap (λ (z : Part). z.what) (same_Some _ _ (sym e ∙ ap (λ n. slice_get (parts t) n) same ∙ f)) ∙ q.2)
    where
      of_irq : What → ℕ
      of_irq (IrqOf k) = k
      of_irq _ = 0

  one_target : (x y : Line) → IsIn x (lines t) → IsIn y (lines t) → x.1 ≡ y.1 → x.0 ≡ y.0
  one_target x y i j e = search (rules, lined, one_place, same_Some)

  to_interrupt : (l : Line) → IsIn l (lines t) → is_at (spec_of t) kinds.Irq l.1 ≡ true
  to_interrupt l i =
      let a = lined l i in
      subst (λ (z : Line). is_at (spec_of t) kinds.Irq z.1 ≡ true) a.is (is_at_of t (IrqOf a.number) kinds.Irq kinds.Irq
      a.there refl refl)

  pub lines_kept : keeps_lines (spec_of t) (lines t) ≡ true
  lines_kept = search (rules, and_from, lines_rise, places_differ, one_target, all_pass, to_interrupt)
