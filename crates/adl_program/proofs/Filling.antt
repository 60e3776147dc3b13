-- A table filled in an order in which inner bodies stand first: what holds of each body that was filled in.
use Rattle.adl_program.proofs.Common.{Hierarchy, IsIn, IsInnerFirst, List, Part, arith, body, cases_eq, get_or, get_or-set_other, get_or-set_same, graph, graph_size, has, inl, inr, length, length-set, list_any_more, listed, nat_eq, nat_tests, set, suc, take, take_all, true, ℕ, ◌+◌, ◌<◌, ◌∙◌, ◌≡◌, ◌≤◌}
use Rattle.adl_hierarchy.proofs.Marks.{has_at}

-- P holds of the entries of those of the order that were filled in
pub record IsFilled {T : Type 0} (P : ℕ → T → Type 0) (h : Hierarchy) (order : List ℕ) (all : List T) (i : ℕ) : Type 0 where
  pub length_is : length all ≡ suc (length h.bodies)
  pub each : (k : ℕ) (t : T) → has (take i order) k ≡ true → P k (get_or all k t)

pub order_below : (h : Hierarchy) (order : List ℕ) (i : ℕ) → IsInnerFirst (graph h) order → i < length order
    → get_or order i 0 ≤ length h.bodies
order_below h order i o l = omega (arith, o.below (get_or order i 0) (has_at order i l), graph_size h)

-- an instance's component was filled in before
pub inner_filled : (h : Hierarchy) (order : List ℕ) (i : ℕ) (x : Part) → IsInnerFirst (graph h) order → i < length order
    → IsIn x (body h (get_or order i 0)).parts → has (take i order) x.kind ≡ true
inner_filled h order i x o l m = o.inner i x.kind l (listed h (get_or order i 0) x (order_below h order i o l) m)

pub filled_more : {T : Type 0} (P : ℕ → T → Type 0) (h : Hierarchy) (order : List ℕ) (all : List T) (i : ℕ) (t : T)
    → IsInnerFirst (graph h) order → i < length order
    → IsFilled P h order all i → P (get_or order i 0) t → IsFilled P h order (set all (get_or order i 0) t) (i + 1)
filled_more P h order all i t o l r e = record {
  length_is = length-set all (get_or order i 0) t ∙ r.length_is;
  each = λ k u m. elim (cases_eq k (get_or order i 0)) [
    | inl p ↦ let w : get_or order i 0 < length all = omega (arith, r.length_is, order_below h order i o l) in
        rw (p, get_or-set_same all (get_or order i 0) t u w) e
    | inr n ↦ rw (get_or-set_other all (get_or order i 0) k t u n)
        (r.each k u (grind (arith, nat_tests, list_any_more (nat_eq k) order i 0 l)))
  ];
}

-- the same where the next one's entry stands for it already
pub filled_same : {T : Type 0} (P : ℕ → T → Type 0) (h : Hierarchy) (order : List ℕ) (all : List T) (i : ℕ)
    → i < length order → IsFilled P h order all i → ((t : T) → P (get_or order i 0) (get_or all (get_or order i 0) t))
    → IsFilled P h order all (i + 1)
filled_same P h order all i l r e = record {
  length_is = r.length_is;
  each = λ k u m. elim (cases_eq k (get_or order i 0)) [
    | inl p ↦ rw p (e u)
    | inr n ↦ r.each k u (grind (arith, nat_tests, list_any_more (nat_eq k) order i 0 l))
  ];
}

-- at the end all are filled in
pub all_filled : {T : Type 0} (P : ℕ → T → Type 0) (h : Hierarchy) (order : List ℕ) (all : List T) (i : ℕ)
    → IsInnerFirst (graph h) order → length order ≤ i → IsFilled P h order all i
    → (k : ℕ) (t : T) → k ≤ length h.bodies → P k (get_or all k t)
all_filled P h order all i o l r k t b = r.each k t (rw (take_all i order l) (o.whole k (omega (arith, graph_size h))))
