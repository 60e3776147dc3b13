-- Rows of items by objects, and facts on the items of lists.
use Rattle.std.proofs.Common.{rules}
use Rattle.cap_audit.proofs.Common.{Contains, Contains-append_left, Contains-push, Contains-push_cases, List, Some, [], arith, cases_lt, contains_at, get_or, get_or-set_same, get_or_from_slice_get, get_or_past, inl, inr, length, read_written}
use Rattle.cap_audit.proofs.Common.{replicate, row_at, slice_get, slice_get_within, subst, sym, with_more, ℕ, ◌++◌, ◌+◌, ◌<◌, ◌∷◌, ◌≡◌, ◌≤◌, ◌⊎◌}
use Rattle.std.proofs.lemmas.List.{get_or-replicate, length-replicate}

module _ {A : Type 0} (rows : List (List A)) (o : ℕ) (x : A) where
  -- what stood in a row stands there
  pub more_kept : (c : ℕ) (y : A) → Contains (row_at rows c) y → Contains (row_at (with_more rows o x) c) y
  more_kept c y h = elim (read_written rows o c (row_at rows o ++ x ∷ []) []) [
    | inl e ↦ subst (λ (row : List A). Contains row y) (sym e) h
    | inr e ↦ subst (λ (row : List A). Contains row y) (sym e.1)
        (Contains-append_left (row_at rows o) (x ∷ []) y (subst (λ (n : ℕ). Contains (row_at rows n) y) e.0 h))
  ]

  -- what stands there now stood there, or is the new one
  pub more_cases : (c : ℕ) (y : A) → Contains (row_at (with_more rows o x) c) y → Contains (row_at rows c) y ⊎ ((c ≡ o) × (x ≡ y))
  more_cases c y h = elim (read_written rows o c (row_at rows o ++ x ∷ []) []) [
    | inl e ↦ inl (subst (λ (row : List A). Contains row y) e h)
    | inr e ↦ elim (Contains-push_cases (row_at rows o) x y (subst (λ (row : List A). Contains row y) e.1 h)) [
      | inl old ↦ inl (subst (λ (n : ℕ). Contains (row_at rows n) y) (sym e.0) old)
      | inr new ↦ inr (e.0, new)
    ]
  ]

  pub more_there : o < length rows → Contains (row_at (with_more rows o x) o) x
  more_there less = subst (λ (row : List A). Contains row x)
      (sym (get_or-set_same rows o (row_at rows o ++ x ∷ []) [] less)) (Contains-push (row_at rows o) x)

-- each place of like items, and behind them
pub blank_at : {A : Type 0} (x : A) (n c : ℕ) → get_or (replicate n x) c x ≡ x
blank_at x n c = search (rules, cases_lt, get_or-replicate, get_or_past, replicate, length-replicate)

pub none_in_blank : {A : Type 0} (n c : ℕ) (y : A) → Contains (row_at (replicate n []) c) y → ⊥
none_in_blank {A} n c y h = let w = (subst (λ (row : List A). Contains row y) (blank_at [] n c) h).1 in omega arith

-- a fact on each item at a place below i + 1
pub each_more : {A : Type 0} (P : A → Type 0) (xs : List A) (i : ℕ) (d : A) → ((k : ℕ) (x : A) → k < i → slice_get xs k ≡ Some x
    → P x) → P (get_or xs i d) → (k : ℕ) (x : A) → k < i + 1 → slice_get xs k ≡ Some x → P x
each_more {A} P xs i d old here k x less h = search (rules, cases_lt, get_or_from_slice_get)

-- a fact on each item
pub each_of_all : {A : Type 0} (P : A → Type 0) (xs : List A) (i : ℕ) → length xs ≤ i
    → ((k : ℕ) (x : A) → k < i → slice_get xs k ≡ Some x → P x) → (x : A) → Contains xs x → P x
each_of_all P xs i le all x there = let k = contains_at xs x there in let within = slice_get_within xs k.0 x k.1 in
    all k.0 x (omega arith) k.1
