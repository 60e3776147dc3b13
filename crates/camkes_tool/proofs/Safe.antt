-- A yes of `check` is sound.
use Rattle.std.proofs.Common.{rules}
use Rattle.camkes_tool.proofs.Common.{Answer, Bool, Contents, Edge, FitsTexts, Holds, IsChecked, IsPolicy, IsPolicyText, IsSafe, IsSystem, List, Ok, Outcome, Policy, Spec, Stays, Text, cond, false, is_well, is_yes, refl, runs_stay}
use Rattle.camkes_tool.proofs.Common.{status_of, true, ℕ, ◌≡◌}
use Rattle.cert_check.specs.Verdicts.{Judged}
use Rattle.cert_check.specs.declared.verdict.Verdict.{Verdict}
use Rattle.cert_check.specs.declared.verdict.Verdict.TheVariants.{Yes, No}
use Rattle.camkes_tool.specs.declared.answer.Answer.TheVariants as answers
use Rattle.text_commands.proofs.Turning.{then_ok}

yes_stays : (spec : Spec) (labels : List ℕ) (policy cert : List Edge) (verdict : Verdict) → is_yes verdict ≡ true
    → Judged spec labels policy cert verdict → Stays spec labels policy
yes_stays spec labels policy cert Yes well judged = λ l a m reaches differ. runs_stay spec labels policy cert judged l a m
    reaches differ
yes_stays spec labels policy cert (No rule have lack) well judged = absurd cc

module _ (contents : Contents) (old new : List ℕ → ℕ) (cdl policy cert : List ℕ) where
  pub system_read : (spec : Spec) → IsSystem contents old new cdl (Ok spec) → (bytes : List ℕ) × Holds contents cdl bytes
      × Text bytes spec
  system_read spec turn = let (bytes, input, told) = then_ok spec turn in (bytes, input.1, told)

  pub policy_read : (allowed : Policy) → IsPolicy contents old new policy (Ok allowed)
      → (bytes : List ℕ) × Holds contents policy bytes × IsPolicyText bytes allowed
  policy_read allowed turn = let (bytes, input, told) = then_ok allowed turn in (bytes, input.1, told)

  checked_safe : (outcome : Outcome) → is_well outcome ≡ true → IsChecked contents old new cdl policy cert (Ok outcome)
      → IsSafe contents cdl policy
  checked_safe outcome well checked = search (rules, then_ok, system_read, policy_read, yes_stays)

  well_of : (b : Bool) → ◌≡◌ {A = ℕ} 0 (cond b 0 3) → b ≡ true
  well_of true e = refl
  well_of false e = absurd cc

  pub answered_safe : (answer : Answer) → FitsTexts (IsChecked contents old new cdl policy cert) answer → 0 ≡ status_of answer
      → IsSafe contents cdl policy
  answered_safe (answers.Told outcome) fits e = checked_safe outcome (well_of (is_well outcome) e) fits
  answered_safe (answers.Refused file fault) fits e = absurd cc
  answered_safe (answers.ReadFault file) fits e = absurd cc
  answered_safe answers.NoMemory fits e = absurd cc
  answered_safe _ fits e = absurd fits
