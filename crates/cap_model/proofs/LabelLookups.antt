-- The name of a label number: what is found is a label, and where no number stands twice it is the only one.
use Rattle.cap_model.proofs.Common.{Bor, Contains, IfSome, List, None, Option, Some, [], ap, arith, eqb_tells, get_or, get_or_from_slice_get, inl, inr, option_map, refl, slice_get, slice_get_within, suc, sym, zero, ℕ, ◌∷◌, ◌≡◌}
use Rattle.cap_model.specs.Policies.{label_name, NumbersDiffer}

numbers_of_rest : (l : ℕ × List ℕ) (labels : List (ℕ × List ℕ)) → NumbersDiffer (l ∷ labels) → NumbersDiffer labels
numbers_of_rest l labels apart i j d less within = apart (suc i) (suc j) d (omega arith) (omega arith)

label_is : (l : ℕ × List ℕ) (n : ℕ) (name : List ℕ) → l.0 ≡ n → l.1 ≡ name → l ≡ (n, name)
label_is l n name a b = let e : ◌≡◌ {A = ℕ × List ℕ} (l.0, l.1) (n, name) = rw (a, b) refl in e

label_name-at : (labels : List (ℕ × List ℕ)) (i n : ℕ) (name : List ℕ) → NumbersDiffer labels
    → slice_get labels i ≡ Some (n, name) → label_name labels n ≡ Some name
label_name-at [] i n name apart h = absurd cc
label_name-at (l ∷ labels) zero n name apart h =
    let is : l ≡ (n, name) = cc in
    elim (eqb_tells l.0 n) [
      | inl t ↦ rw (t.0, is) refl
      | inr t ↦ absurd (t.1 (ap (λ (m : ℕ × List ℕ). m.0) is))
    ]
label_name-at (l ∷ labels) (suc i) n name apart h =
    elim (eqb_tells l.0 n) [
      | inl t ↦
          let within = slice_get_within labels i (n, name) h in
          let is : get_or labels i (n, name) ≡ (n, name) = get_or_from_slice_get labels i (n, name) (n, name) h in
          absurd (apart zero (suc i) (n, name) (omega arith) (omega arith) (rw is t.1))
      | inr t ↦ rw t.0 (label_name-at labels i n name (numbers_of_rest l labels apart) h)
    ]

-- the label at a place, with what the code compares and reads of it
pub label_name-there : (labels : List (ℕ × List ℕ)) (i n : ℕ) (l : ℕ × List ℕ) (name : List ℕ) → slice_get labels i ≡ Some l
    → l.0 ≡ n → name ≡ l.1 → NumbersDiffer labels → Some name ≡ label_name labels n
label_name-there labels i n l name h a b apart =
    let is : l ≡ (n, name) = label_is l n name a (sym b) in
    sym (label_name-at labels i n name apart (rw (← is) h))

label_name-found : (labels : List (ℕ × List ℕ)) (n : ℕ) (name : List ℕ) → label_name labels n ≡ Some name
    → Contains labels (n, name)
label_name-found [] n name h = absurd cc
label_name-found (l ∷ labels) n name h =
    elim (eqb_tells l.0 n) [
      | inl t ↦
          let there : Some l.1 ≡ Some name = (let g = h in rw t.0 at g) in
          (zero, omega arith, label_is l n name t.1 cc)
      | inr t ↦
          let rest : label_name labels n ≡ Some name = (let g = h in rw t.0 at g) in
          let c = label_name-found labels n name rest in
          (suc c.0, omega (arith, c.1), c.2)
    ]

-- what a look-up that answers a borrow has found
pub label_name-found_now : (labels : List (ℕ × List ℕ)) (n : ℕ) (found : Option (Bor (List ℕ)))
    → option_map (λ b. b.now) found ≡ label_name labels n → IfSome found (λ b. Contains labels (n, b.now))
label_name-found_now labels n None h = tt
label_name-found_now labels n (Some b) h = label_name-found labels n b.now (sym h)
