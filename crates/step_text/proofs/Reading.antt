-- One line more.
use Rattle.step_text.proofs.Common.{Err, IsRead, IsRefusal, Line, List, None, Option, Some, Spec, Step, Wrong, [], ap, arith, bytes_limit, false, fault_of, fields, first_fault_of, length, lines}
use Rattle.step_text.proofs.Common.{nat_tests, option_or, rules, spelled, step_of, take, thread_named, wrong, ℕ, ◌++◌, ◌+◌, ◌∙◌, ◌∷◌, ◌≡◌, ◌≤◌}
use Rattle.cam_base.specs.declared.error.Refused.{Refused}
use Rattle.cam_base.specs.declared.error.Refused.TheVariants as refused
use Rattle.cam_base.specs.declared.text_fault.TextFault.{TextFault}
use Rattle.step_text.specs.LinesRead.{IsLineRead}
use Rattle.step_text.proofs.FewFields.{few_wrong, few_spelled}

-- a line without a fault
pub fault_behind : (place : List ℕ → Option ℕ) (before : ℕ) (line : Line) (left more : List Line) → left ≡ line ∷ more
    → fault_of place before line ≡ None
    → first_fault_of place before left ≡ first_fault_of place (before + 1) more
fault_behind place before line left more is none = ap (first_fault_of place before) is
    ∙ ap (λ fault. option_or fault (first_fault_of place (before + 1) more)) none

-- the first line with a fault
pub fault_here : (place : List ℕ → Option ℕ) (before : ℕ) (line : Line) (left more : List Line) (fault : TextFault)
    → left ≡ line ∷ more → fault_of place before line ≡ Some fault
    → first_fault_of place before left ≡ Some fault
fault_here place before line left more fault is here = ap (first_fault_of place before) is
    ∙ ap (λ fault. option_or fault (first_fault_of place (before + 1) more)) here

-- a line whose first eight fields spell a step
pub line_step : (place : List ℕ → Option ℕ) (before : ℕ) (line : Line) (first : List (List ℕ)) (step : Step)
    → first ≡ take 8 (fields line.text)
    → (wrong place before first ≡ None) × (spelled place first ≡ Some step) → (fault_of place before line ≡ None)
    × (step_of place line ≡ Some step)
line_step place before line first step is judged = search (rules, few_wrong, few_spelled)

-- a line with a fault among them
pub line_fault : (place : List ℕ → Option ℕ) (before : ℕ) (line : Line) (first : List (List ℕ)) (what : Wrong)
    (refusal : Refused TextFault) → first ≡ take 8 (fields line.text)
    → wrong place before first ≡ Some what → IsRefusal line what refusal → IsLineRead place before line (Err refusal)
line_fault place before line first what (refused.Fault fault) is stands fits = search (rules, few_wrong)
line_fault place before line first what refused.NoMemory is stands fits = tt

-- the text of a line with a fault
pub text_refused : (spec : Spec) (bytes : List ℕ) (place : List ℕ → Option ℕ) (before : ℕ) (line : Line) (left more : List Line)
    (refusal : Refused TextFault)
    → length bytes ≤ bytes_limit → place ≡ thread_named spec → left ≡ line ∷ more
    → first_fault_of place before left ≡ first_fault_of place 0 (lines bytes)
    → IsLineRead place before line (Err refusal) → IsRead spec bytes (Err refusal)
text_refused spec bytes place before line left more (refused.Fault fault) short threads is so_far here =
    search (rules, nat_tests, fault_here)
text_refused spec bytes place before line left more refused.NoMemory short threads is so_far here = tt
