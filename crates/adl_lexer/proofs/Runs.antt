-- Runs of bytes.
use Rattle.adl_lexer.proofs.Common.{List, Ok, [], after_run, among, and_more, ap, arith, cases_Bool, class_of, consumes, false, inl, inr, length, length-append, line_bytes, many, many_more, many_none, not, one, refl, run, subst}
use Rattle.adl_lexer.proofs.Common.{rules, take, take-front, true, ℕ, ◌++◌, ◌-◌, ◌==◌, ◌∙◌, ◌∷◌, ◌≡◌, ◌≤◌}
use Rattle.adl_lexer.proofs.Classes.{line_byte}

run_step : (cs : List ℕ) (b : ℕ) (bs : List ℕ) → among cs (class_of b) ≡ true
    → many class_of cs (one class_of cs) (b ∷ bs) ≡ and_more (many class_of cs (one class_of cs)) (Ok (b, bs))
run_step cs b bs h = search (rules, many_more, consumes, and_more)

-- reading any number of them gives the run
pub run_is : (cs bs : List ℕ) → many class_of cs (one class_of cs) bs ≡ Ok (run cs bs, after_run cs bs)
run_is cs [] = many_none class_of cs (one class_of cs) [] refl
run_is cs (b ∷ bs) = elim (cases_Bool (among cs (class_of b))) [
  | inl h ↦ run_step cs b bs h ∙ rw (h, run_is cs bs) refl
  | inr h ↦ many_none class_of cs (one class_of cs) (b ∷ bs) h ∙ rw h refl
]

-- a run and what is behind it are all
pub run_after : (cs bs : List ℕ) → run cs bs ++ after_run cs bs ≡ bs
run_after cs [] = refl
run_after cs (b ∷ bs) = elim (cases_Bool (among cs (class_of b))) [ inl h ↦ rw (h, run_after cs bs) refl | inr h ↦ rw h refl ]

pub after_run_le : (cs bs : List ℕ) → length (after_run cs bs) ≤ length bs
after_run_le cs bs = let e = ap length (run_after cs bs) in omega (arith, length-append (run cs bs) (after_run cs bs))

-- the bytes before what is behind a run are the run
pub run_taken : (cs bs : List ℕ) → take (length bs - length (after_run cs bs)) bs ≡ run cs bs
run_taken cs bs = subst (λ (w : List ℕ). take (length w - length (after_run cs bs)) w ≡ run cs bs) (run_after cs bs)
    (take-front (run cs bs) (after_run cs bs))

-- a line goes on with each byte but a line feed
pub line_goes_on : (b : ℕ) → (class_of b == 6) ≡ false → among line_bytes (class_of b) ≡ true
line_goes_on b h = line_byte b ∙ ap not h
