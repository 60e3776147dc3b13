-- Edges of the items of a list, gathered one item after the other.
use Rattle.cap_machine.proofs.Common.{Adds, Edge, List, OfEach, Some, arith, cases_lt, get_or, inl, inr, length, rules, slice_get, slice_get-get_or, slice_get_within, ℕ, ◌+◌, ◌<◌, ◌≡◌, ◌≤◌, ◌⊎◌}
use Rattle.cap_model.proofs.EdgeGrowth.{adds_same, adds_then, adds_none}

-- the items at lesser places than n
pub record OfFirst {A : Type 0} (P : ℕ → A → Edge → Type 0) (items : List A) (n : ℕ) (e : Edge) : Type 0 where
  pub of_each : OfEach P items e
  pub below : of_each.place < n

module _ {A : Type 0} (P : ℕ → A → Edge → Type 0) (items : List A) where
  pub none_first : (a : List Edge) → Adds (OfFirst P items 0) a a
  none_first a = adds_none (OfFirst P items 0) (λ e h. let b = h.below in absurd (omega arith)) a

  pub first_more : (n : ℕ) (item : A) (a b c : List Edge) → slice_get items n ≡ Some item → Adds (OfFirst P items n) a b
      → Adds (P n item) b c → Adds (OfFirst P items (n + 1)) a c
  first_more n item a b c here before now =
      adds_same (λ e. OfFirst P items n e ⊎ P n item e) (OfFirst P items (n + 1))
      (λ e h. elim h [
        | inl x ↦ record { of_each = x.of_each; below = (let b = x.below in omega arith) }
        | inr x ↦ record { of_each = record { place = n; item = item; there = here; by = x }; below = omega arith }
      ])
      (λ e x. elim (cases_lt x.of_each.place n) [
        | inl below ↦ inl (record { of_each = x.of_each; below = below })
        | inr ge ↦ inr (at_last e x (let b = x.below in omega arith))
      ])
      a c
      (adds_then (OfFirst P items n) (P n item) a b c before now) where
        at_last : (e : Edge) (x : OfFirst P items (n + 1) e) → x.of_each.place ≡ n → P n item e
        at_last e x same = search (rules, slice_get)

  -- at the end these are all
  pub all_first : (n : ℕ) (a b : List Edge) → length items ≤ n → Adds (OfFirst P items n) a b → Adds (OfEach P items) a b
  all_first n a b le grown =
      adds_same (OfFirst P items n) (OfEach P items) (λ e h. h.of_each)
      (λ e h. record {
        of_each = h;
        below = (let l : h.place < length items = slice_get_within items h.place h.item h.there in
            omega arith);
      })
      a b grown

-- one item more, read at its place
pub first_more_at : {A : Type 0} (P : ℕ → A → Edge → Type 0) (items : List A) (n : ℕ) (d : A) (a b c : List Edge)
    → n < length items → Adds (OfFirst P items n) a b → Adds (P n (get_or items n d)) b c → Adds (OfFirst P items (n + 1)) a c
first_more_at P items n d a b c l before now = first_more P items n (get_or items n d) a b c
    (slice_get-get_or items n d l) before now
