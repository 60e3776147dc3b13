-- Runs of bytes.
use Rattle.capdl_text.proofs.Common.{Bool, List, [], after_run, ap, arith, cases_Bool, inl, inr, length, length-append, list_all, refl, run, subst, take, take-front, true, ℕ, ◌++◌, ◌-◌, ◌∷◌, ◌≡◌, ◌≤◌}

-- a run and what is behind it are all
pub run_after : (test : ℕ → Bool) (bs : List ℕ) → run test bs ++ after_run test bs ≡ bs
run_after test [] = refl
run_after test (b ∷ bs) = elim (cases_Bool (test b)) [ inl h ↦ rw (h, run_after test bs) refl | inr h ↦ rw h refl ]

-- each byte of a run passes
pub run_passes : (test : ℕ → Bool) (bs : List ℕ) → list_all test (run test bs) ≡ true
run_passes test [] = refl
run_passes test (b ∷ bs) = elim (cases_Bool (test b)) [ inl h ↦ rw h (rw h (run_passes test bs)) | inr h ↦ rw h refl ]

pub after_run_le : (test : ℕ → Bool) (bs : List ℕ) → length (after_run test bs) ≤ length bs
after_run_le test bs = let e = ap length (run_after test bs) in omega (arith, length-append (run test bs) (after_run test bs))

-- the bytes before what is behind a run are the run
pub run_taken : (test : ℕ → Bool) (bs : List ℕ) → take (length bs - length (after_run test bs)) bs ≡ run test bs
run_taken test bs = subst (λ (w : List ℕ). take (length w - length (after_run test bs)) w ≡ run test bs) (run_after test bs)
    (take-front (run test bs) (after_run test bs))
