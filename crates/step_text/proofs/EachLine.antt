-- Where no fault stands each line spells one step.
use Rattle.std.proofs.Common.{rules}
use Rattle.step_text.proofs.Common.{Bool, Line, List, None, Option, Some, Spec, Step, [], ap, at_line, bytes_limit, false, fault_of, fields, filter_map, first_fault, first_fault_of, length, lines, misspelled, neither, refl, spelled, step_of}
use Rattle.step_text.proofs.Common.{nat_lt, steps_of, suc, thread_named, true, ℕ, ◌+◌, ◌∷◌, ◌≡◌}

each_line : (place : List ℕ → Option ℕ) (before : ℕ) (lines : List Line) → first_fault_of place before lines ≡ None
    → length (filter_map (step_of place) lines) ≡ length lines
each_line place before [] none = refl
each_line place before (line ∷ more) none =
    let both = neither (fault_of place before line) (first_fault_of place (before + 1) more) none in
    go (spelled place (fields line.text)) refl both.0 (each_line place (before + 1) more both.1)
  where
    go : (step : Option Step) → spelled place (fields line.text) ≡ step → fault_of place before line ≡ None
        → length (filter_map (step_of place) more) ≡ length more
        → length (filter_map (step_of place) (line ∷ more)) ≡ length (line ∷ more)
    go None e here others = let stands : fault_of place before line ≡ Some (at_line line (misspelled place (fields line.text))) =
        rw e refl in absurd cc
    go (Some step) e here others = rw e (ap suc others)

pub each_line_spells : (spec : Spec) (bytes : List ℕ) → first_fault spec bytes ≡ None
    → length (steps_of spec bytes) ≡ length (lines bytes)
each_line_spells spec bytes none = search (rules, each_line)
