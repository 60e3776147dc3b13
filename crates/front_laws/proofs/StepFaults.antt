-- The first line of a text of steps that is refused.
use Rattle.front_laws.proofs.Common.{Bool, Line, List, None, Option, Some, [], ap, arith, cond, false, fields, in_right, is_some, length, length-append, lines, lt-ltb, ltb-true, nat_lt, nat_tests, option_map, option_or, refl, split_in}
use Rattle.front_laws.proofs.Common.{rules, suc, sym, true, ℕ, ◌++◌, ◌+◌, ◌<◌, ◌∙◌, ◌∷◌, ◌≡◌, ◌≤◌}
use Rattle.cam_base.specs.declared.text_fault.TextCode.TheVariants.{StepLimit, StepSyntax, StepUnknown}
use Rattle.cam_base.specs.declared.text_fault.TextFault.{TextFault}
use Rattle.cap_machine.specs.declared.step.Step.{Step}
use Rattle.cap_model.specs.declared.spec.Spec.{Spec}
use Rattle.cam_base.specs.Gather.{IsIn}
use Rattle.step_text.specs.Spelling.{any_word, names, spelled}
use Rattle.step_text.specs.StepTexts.{bytes_limit, fault_of, first_fault, first_fault_of, first_unknown, misspelled, past_limit, step_of, steps_limit}
use Rattle.step_text.specs.Threads.{thread_named}
use Rattle.cam_base.specs.LineFaults.{Wrong, at_line}
use Rattle.front_laws.specs.StepFaults.{AreStepsRead, IsFormOfStep, IsStepFault, IsStepLine, SpellsStep, no_step, no_thread, one_step_more, too_long}
use Rattle.front_laws.proofs.First.{First, IsClean, first_of, from_first, from_none, in_first, in_none}
use Rattle.front_laws.proofs.RegionTexts.{last_of}

abbrev said : Spec → List Line → Line → Option TextFault
said spec before line = fault_of (thread_named spec) (length before) line

as_first : (spec : Spec) (before ls : List Line) (n : ℕ) → n ≡ length before
    → first_fault_of (thread_named spec) n ls ≡ first_of (said spec) before ls
as_first spec before [] n e = refl
as_first spec before (l ∷ ls) n e =
    ap (λ z. option_or (fault_of (thread_named spec) z l) (first_fault_of (thread_named spec) (n + 1) ls)) e
    ∙ ap (option_or (said spec before l)) (as_first spec (before ++ l ∷ []) ls (n + 1)
    (omega (arith, e, length-append before (l ∷ []))))

-- ---- one line

abbrev wrong_as : Spec → ℕ → Line → Option Step → Option Wrong
wrong_as spec n l o = cond (is_some o) (past_limit n) (Some (misspelled (thread_named spec) (fields l.text)))

abbrev limited : Bool → Option Wrong
limited b = cond b None (Some (StepLimit, []))

read_clean : (spec : Spec) (before : List Line) (l : Line) → said spec before l ≡ None
    → SpellsStep spec l × (length before < steps_limit)
read_clean spec before l e = by_step (step_of (thread_named spec) l) refl e
  where
    by_step : (o : Option Step) → step_of (thread_named spec) l ≡ o
        → option_map (at_line l) (wrong_as spec (length before) l o) ≡ None → SpellsStep spec l × (length before < steps_limit)
    by_step None s e = cc
    by_step (Some x) s e = grind (arith, nat_lt, ltb-true)

clean_read : (spec : Spec) (before : List Line) (l : Line) → SpellsStep spec l → length before < steps_limit
    → said spec before l ≡ None
clean_read spec before l r m = search (rules, lt-ltb)

-- ---- the lines in front

all_read : (spec : Spec) (front : List Line) → IsClean (said spec) [] front → (l : Line) → IsIn l front → SpellsStep spec l
all_read spec front clean l i = let s = split_in front l i in (read_clean spec s.0 l (clean s.0 s.1 l s.2)).0

few : (spec : Spec) (front : List Line) → IsClean (said spec) [] front → length front ≤ steps_limit
few spec [] clean = omega arith
few spec (x ∷ xs) clean =
    let r = last_of x xs in
    let many : suc (length xs) ≡ length r.0 + 1 = ap length r.2 ∙ length-append r.0 (r.1 ∷ []) in
    omega (arith, (read_clean spec r.0 r.1 (clean r.0 [] r.1 r.2)).1, many)

all_clean : (spec : Spec) (front : List Line) → ((l : Line) → IsIn l front → SpellsStep spec l) → length front ≤ steps_limit
    → IsClean (said spec) [] front
all_clean spec front read low p q y e = search (rules, length-append, clean_read, in_right)

-- ---- a text

abbrev long_fault : TextFault
long_fault = record { code = StepLimit; first = 0; end = 0; name = [] }

abbrev by_length : Spec → List ℕ → Bool → Option TextFault
by_length spec bytes b = cond b (Some long_fault) (first_fault_of (thread_named spec) 0 (lines bytes))

short_fault : (spec : Spec) (bytes : List ℕ) → length bytes ≤ bytes_limit
    → first_fault spec bytes ≡ first_of (said spec) [] (lines bytes)
short_fault spec bytes l = search (rules, nat_lt, nat_tests, as_first)

none_spelled : (spec : Spec) (l : Line) → step_of (thread_named spec) l ≡ None → SpellsStep spec l → ⊥
none_spelled spec l e s = let t = s.1 in cc

-- the fault at a line, by what the line spells
at_one : (spec : Spec) (bytes : List ℕ) (f : TextFault) → length bytes ≤ bytes_limit → First (said spec) [] (lines bytes) f
    → IsStepFault spec bytes f
at_one spec bytes f short r = by_step (step_of (thread_named spec) r.item) refl r.says
  where
    here : IsStepLine spec bytes r.front r.item
    here = search (rules, all_read, few)

    by_form : step_of (thread_named spec) r.item ≡ None → (o : Option Step) → spelled any_word (fields r.item.text) ≡ o
        → Some (at_line r.item (cond (is_some o) (StepUnknown, first_unknown (thread_named spec) (names (fields r.item.text)))
        (StepSyntax, []))) ≡ Some f → IsStepFault spec bytes f
    by_form none None s e =
        let same : at_line r.item (StepSyntax, []) ≡ f = cc in
        no_step r.front r.item here (none_spelled spec r.item none) (λ x. let t = x.1 in cc) (sym same)
    by_form none (Some x) s e =
        let same : at_line r.item (StepUnknown, first_unknown (thread_named spec) (names (fields r.item.text))) ≡ f = cc in
        no_thread r.front r.item here (none_spelled spec r.item none) (x, s) (sym same)

    by_room : SpellsStep spec r.item → (b : Bool) → nat_lt (length r.front) steps_limit ≡ b
        → option_map (at_line r.item) (limited b) ≡ Some f → IsStepFault spec bytes f
    by_room x true t e = cc
    by_room x false t e =
        let same : at_line r.item (StepLimit, []) ≡ f = cc in
        let most : steps_limit ≤ length r.front = grind (arith, nat_tests) in
        one_step_more r.front r.item here x (omega (arith, few spec r.front r.clean, most)) (sym same)

    by_step : (o : Option Step) → step_of (thread_named spec) r.item ≡ o
        → option_map (at_line r.item) (wrong_as spec (length r.front) r.item o) ≡ Some f → IsStepFault spec bytes f
    by_step None s e = by_form s (spelled any_word (fields r.item.text)) refl e
    by_step (Some x) s e = by_room (x, s) (nat_lt (length r.front) steps_limit) refl e

pub from_step_fault : (spec : Spec) (bytes : List ℕ) (f : TextFault) → first_fault spec bytes ≡ Some f → IsStepFault spec bytes f
from_step_fault spec bytes f e = by_test (nat_lt bytes_limit (length bytes)) refl e
  where
    by_test : (b : Bool) → nat_lt bytes_limit (length bytes) ≡ b → by_length spec bytes b ≡ Some f → IsStepFault spec bytes f
    by_test true t e = let same : long_fault ≡ f = cc in too_long (ltb-true bytes_limit (length bytes) t) (sym same)
    by_test false t e =
        let short : length bytes ≤ bytes_limit = grind (arith, nat_tests) in
        at_one spec bytes f short (from_first (said spec) [] (lines bytes) f (sym (as_first spec [] (lines bytes) 0 refl) ∙ e))

-- what is said of a line that spells no step
unspelled : (spec : Spec) (n : ℕ) (l : Line) → (SpellsStep spec l → ⊥)
    → fault_of (thread_named spec) n l ≡ Some (at_line l (misspelled (thread_named spec) (fields l.text)))
unspelled spec n l none = search (rules)

formless : (l : Line) → (IsFormOfStep l → ⊥) → is_some (spelled any_word (fields l.text)) ≡ false
formless l none = search (rules, is_some)

abbrev by_form_of : Spec → Line → Bool → Option TextFault
by_form_of spec l b =
    Some (at_line l (cond b (StepUnknown, first_unknown (thread_named spec) (names (fields l.text))) (StepSyntax, [])))

in_line : (spec : Spec) (bytes : List ℕ) (f : TextFault) (before : List Line) (line : Line) → IsStepLine spec bytes before line
    → said spec before line ≡ Some f → first_fault spec bytes ≡ Some f
in_line spec bytes f before line r says = search (rules, short_fault, first_of, in_first, all_clean)

pub in_step_fault : (spec : Spec) (bytes : List ℕ) (f : TextFault) → IsStepFault spec bytes f → first_fault spec bytes ≡ Some f
in_step_fault spec bytes f (too_long l e) = ap (by_length spec bytes) (lt-ltb bytes_limit (length bytes) l) ∙ ap Some (sym e)
in_step_fault spec bytes f (no_step before line r none form e) =
    in_line spec bytes f before line r (unspelled spec (length before) line none ∙ ap (by_form_of spec line) (formless line form)
    ∙ ap Some (sym e))
in_step_fault spec bytes f (no_thread before line r none form e) =
    in_line spec bytes f before line r (unspelled spec (length before) line none ∙ ap (λ o. by_form_of spec line (is_some o))
    form.1 ∙ ap Some (sym e))
in_step_fault spec bytes f (one_step_more before line r s full e) =
    let past : nat_lt (length before) steps_limit ≡ false = grind (arith, nat_tests) in
    in_line spec bytes f before line r (ap (λ o. option_map (at_line line) (wrong_as spec (length before) line o)) s.1
    ∙ ap (λ b. option_map (at_line line) (limited b)) past ∙ ap Some (sym e))

pub from_no_step_fault : (spec : Spec) (bytes : List ℕ) → first_fault spec bytes ≡ None → AreStepsRead spec bytes
from_no_step_fault spec bytes e = by_test (nat_lt bytes_limit (length bytes)) refl e
  where
    by_test : (b : Bool) → nat_lt bytes_limit (length bytes) ≡ b → by_length spec bytes b ≡ None → AreStepsRead spec bytes
    by_test true t e = cc
    by_test false t e =
        let clean = from_none (said spec) [] (lines bytes) (sym (as_first spec [] (lines bytes) 0 refl) ∙ e) in
        record { short = grind (arith, nat_tests); read = all_read spec (lines bytes) clean; few = few spec (lines bytes) clean }

pub in_no_step_fault : (spec : Spec) (bytes : List ℕ) → AreStepsRead spec bytes → first_fault spec bytes ≡ None
in_no_step_fault spec bytes a = short_fault spec bytes a.short ∙ in_none (said spec) [] (lines bytes)
    (all_clean spec (lines bytes) a.read a.few)
