-- The text of steps, line by line.
use Rattle.step_text.proofs.Common.{All, All-head, All-tail, IsReadable, Line, List, None, Some, Spec, Step, [], ap, arith, false, fields, filter_map, first_fault, first_fault_of, is_silent, length, nat_lt, nat_tests, parts, past_limit, placed, refl}
use Rattle.step_text.proofs.Common.{rules, spelled, step_of, steps_of, steps_text, telling, thread_named, true, ℕ, ◌++◌, ◌+◌, ◌<◌, ◌∙◌, ◌∷◌, ◌≡◌, ◌≤◌}
use Rattle.step_text.proofs.Fields.{fields_joined, joined, line_parts}
use Rattle.step_text.proofs.SpelledBack.{behind, line_fields, not_silent, plain_fields, spelled_back, word_of}

module _ (spec : Spec) where
  -- the bytes of a step's line
  body : Step → List ℕ
  body step = joined (word_of spec step ∷ behind spec step)

  text_parts : (step : Step) (more : List Step) → IsReadable spec step → parts 10 (steps_text spec (step ∷ more)) ≡ body step
      ∷ parts 10 (steps_text spec more)
  unfolding body
  text_parts step more h = search (rules, line_fields, line_parts, word_of, behind, plain_fields)

  body_spelled : (step : Step) → IsReadable spec step → spelled (thread_named spec) (fields (body step)) ≡ Some step
  unfolding body
  body_spelled step h =
      ap (λ (fs : List (List ℕ)). spelled (thread_named spec) fs) (fields_joined (word_of spec step) (behind spec step)
      (plain_fields spec step h)) ∙ spelled_back spec step h

  body_tells : (step : Step) → is_silent (body step) ≡ false
  unfolding body
  body_tells step = not_silent spec step

  -- the lines of the text, from a place on
  abbrev lines_at : ℕ → List Step → List Line
  lines_at at more = telling (placed at (parts 10 (steps_text spec more)))

  line_first : (at : ℕ) (step : Step) (more : List Step) → IsReadable spec step
      → lines_at at (step ∷ more) ≡ record { first = at; text = body step } ∷ lines_at (at + (length (body step) + 1)) more
  line_first at step more h = rw (text_parts step more h) (rw (body_tells step) refl)

  spelled_all : (at : ℕ) (more : List Step) → All (IsReadable spec) more
      → filter_map (step_of (thread_named spec)) (lines_at at more) ≡ more
  spelled_all at [] h = refl
  spelled_all at (step ∷ more) h =
      let here = All-head (IsReadable spec) step more h in
      ap (λ (ls : List Line). filter_map (step_of (thread_named spec)) ls) (line_first at step more here)
      ∙ rw (body_spelled step here) (ap (λ (xs : List Step). step ∷ xs) (spelled_all (at + (length (body step) + 1)) more
      (All-tail (IsReadable spec) step more h)))

  few : (n : ℕ) → n < 100000 → past_limit n ≡ None
  few n h = let e : nat_lt n 100000 ≡ true = grind (arith, nat_tests) in rw e refl

  faultless : (at before : ℕ) (more : List Step) → All (IsReadable spec) more → before + length more ≤ 100000
      → first_fault_of (thread_named spec) before (lines_at at more) ≡ None
  faultless at before [] h le = refl
  faultless at before (step ∷ more) h le =
      let here = All-head (IsReadable spec) step more h in
      ap (λ (ls : List Line). first_fault_of (thread_named spec) before ls) (line_first at step more here)
      ∙ rw (body_spelled step here) (rw (few before (omega arith)) (faultless (at + (length (body step) + 1)) (before + 1) more
      (All-tail (IsReadable spec) step more h) (omega arith)))

  pub read_back : (steps : List Step) → All (IsReadable spec) steps → steps_of spec (steps_text spec steps) ≡ steps
  read_back steps h = spelled_all 0 steps h

  pub no_fault : (steps : List Step) → All (IsReadable spec) steps → length steps ≤ 100000
      → length (steps_text spec steps) ≤ 67108864 → first_fault spec (steps_text spec steps) ≡ None
  no_fault steps h few_steps few_bytes = grind (arith, nat_tests, faultless)
