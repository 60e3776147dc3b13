-- A text of steps without a fault has at most as many steps as the limit says.
use Rattle.std.proofs.Common.{rules}
use Rattle.text_commands.proofs.Common.{Bool, List, None, Option, Some, Spec, Step, StepLimit, [], arith, false, filter_map, length, nat_lt, nat_tests, refl, true, ℕ, ◌+◌, ◌<◌, ◌∷◌, ◌≡◌, ◌≤◌}
use Rattle.cam_base.specs.LineFaults.{at_line}
use Rattle.cam_base.specs.Fields.{fields}
use Rattle.cam_base.specs.Lines.{Line, lines}
use Rattle.step_text.specs.Spelling.{spelled}
use Rattle.step_text.specs.StepTexts.{bytes_limit, fault_of, first_fault, first_fault_of, misspelled, step_of, steps_of}
use Rattle.step_text.specs.Threads.{thread_named}
use Rattle.cam_base.proofs.Options.{neither}

below : (before : ℕ) (b : Bool) → nat_lt before 100000 ≡ b → b ≡ true → before < 100000
below before b e is = grind (arith, nat_tests)

few_after : (place : List ℕ → Option ℕ) (before : ℕ) (lines : List Line) → before ≤ 100000
    → first_fault_of place before lines ≡ None
    → before + length (filter_map (step_of place) lines) ≤ 100000
few_after place before [] l none = omega arith
few_after place before (line ∷ more) l none =
    let both = neither (fault_of place before line) (first_fault_of place (before + 1) more) none in
    go (spelled place (fields line.text)) refl (nat_lt before 100000) refl both.0
    (λ less. few_after place (before + 1) more less both.1)
  where
    go : (step : Option Step) → spelled place (fields line.text) ≡ step → (b : Bool) → nat_lt before 100000 ≡ b
        → fault_of place before line ≡ None
        → (before + 1 ≤ 100000 → before + 1 + length (filter_map (step_of place) more) ≤ 100000)
        → before + length (filter_map (step_of place) (line ∷ more)) ≤ 100000
    go None e b t here others = let stands : fault_of place before line ≡ Some
        (at_line line (misspelled place (fields line.text))) = rw e refl in absurd cc
    go (Some step) e false t here others = let stands : fault_of place before line ≡ Some (at_line line (StepLimit, [])) =
        rw (e, t) refl in absurd cc
    go (Some step) e true t here others = grind (arith, below)

pub few_steps : (spec : Spec) (bytes : List ℕ) → first_fault spec bytes ≡ None → length (steps_of spec bytes) ≤ 100000
few_steps spec bytes none = search (rules, nat_lt, few_after)
