-- Sets of numbers: their marks, and what their lists have.
use Rattle.adl_hierarchy.proofs.Common.{AreMarks, Bool, IsDistinct-push, List, [], arith, cases_Bool, cases_eq, drop, eq-eqb, eqb-true, false, get_or, get_or-replicate, get_or-set_other, get_or-set_same, has, inl, inr, length}
use Rattle.adl_hierarchy.proofs.Common.{length-append, length-le_from_distinct_below, length-replicate, length-set, list_any-append, list_any_at, ne_eqb, or_cases, or_left, or_right, refl, replicate, set, subst, take, take-append-drop}
use Rattle.adl_hierarchy.proofs.Common.{rules, take-append-le, true, with_number, ℕ, ◌++◌, ◌<◌, ◌^◌, ◌||◌, ◌∙◌, ◌∷◌, ◌≡◌, ◌≤◌, ◌⊎◌}
use Rattle.std.specs.List.{IsDistinct}
use Rattle.std.proofs.lemmas.Cmp.{nat_eq_equiv}
use lib.Dec.{eqb}

pub marks_few : (marks : List Bool) (list : List ℕ) → AreMarks marks list → length list ≤ length marks
marks_few marks list m = length-le_from_distinct_below list (length marks) m.distinct m.below

pub marks_new : (n : ℕ) → n < 2 ^ 32 → AreMarks (replicate n false) []
unfolding IsDistinct
marks_new n h = search (rules, get_or-replicate, length-replicate)

has_push : (list : List ℕ) (x y : ℕ) → has (list ++ x ∷ []) y ≡ (has list y || (eqb y x || false))
has_push list x y = list_any-append (eqb y) list (x ∷ [])

at_other : (b : Bool) → b ≡ (b || (false || false))
at_other true = refl
at_other false = refl

at_same : (b : Bool) → true ≡ (b || (true || false))
at_same true = refl
at_same false = refl

pub marks_more : (marks : List Bool) (list : List ℕ) (x : ℕ) → AreMarks marks list → x < length marks → has list x ≡ false
    → AreMarks (set marks x true) (list ++ x ∷ [])
marks_more marks list x m h fresh = record {
  each = search (rules, cases_eq, set, get_or-set_same, at_same, eq-eqb, has_push, get_or-set_other, length-set, at_other);
  below = search (rules, length-set, or_cases, eqb, has_push, eqb-true);
  distinct = IsDistinct-push nat_eq_equiv list x m.distinct fresh;
  size = rw length-set m.size;
}

pub has_at : (xs : List ℕ) (i : ℕ) → i < length xs → has xs (get_or xs i 0) ≡ true
has_at xs i h = list_any_at (eqb (get_or xs i 0)) xs i 0 h (eq-eqb _ _ refl)

pub has_old : (list : List ℕ) (a x : ℕ) → has list x ≡ true → has (list ++ a ∷ []) x ≡ true
has_old list a x e = list_any-append (eqb x) list (a ∷ []) ∙ or_left _ _ e

pub has_new : (list : List ℕ) (a : ℕ) → has (list ++ a ∷ []) a ≡ true
has_new list a = list_any-append (eqb a) list (a ∷ []) ∙ or_right _ _ (or_left _ _ (eq-eqb a a refl))

pub has_pushed : (list : List ℕ) (a x : ℕ) → has (list ++ a ∷ []) x ≡ true → (has list x ≡ true) ⊎ (x ≡ a)
has_pushed list a x e = search (rules, or_cases, eqb, has_push, eqb-true)

pub has_take : (n : ℕ) (xs : List ℕ) (x : ℕ) → has (take n xs) x ≡ true → has xs x ≡ true
has_take n xs x e =
    subst (λ ys. has ys x ≡ true) (take-append-drop n xs) (list_any-append (eqb x) (take n xs) (drop n xs) ∙ or_left _ _ e)

-- what a list with a number has
pub has-with_number : (xs : List ℕ) (a x : ℕ) → has (with_number xs a) x ≡ (has xs x || has (a ∷ []) x)
has-with_number xs a x = search (rules, cases_Bool, cases_eq, at_other, ne_eqb, list_any-append, eqb)

pub take-with_number : (n : ℕ) (xs : List ℕ) (a : ℕ) → n ≤ length xs → take n (with_number xs a) ≡ take n xs
take-with_number n xs a h = elim (cases_Bool (has xs a)) [ inl e ↦ rw e | inr e ↦ rw e (take-append-le n xs (a ∷ []) h) ]

pub length-with_number : (xs : List ℕ) (a : ℕ) → length xs ≤ length (with_number xs a)
length-with_number xs a = grind (arith, cases_Bool, length-append)
