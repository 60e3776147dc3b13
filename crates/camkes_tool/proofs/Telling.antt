-- What a command answers fits as it is told, also where its words are known by equations; and want of memory fits every
-- command.
use Rattle.camkes_tool.proofs.Common.{Answer, Audit, Certify, Check, Command, Contents, Err, Explain, Fits, FitsTexts, InputError, IsAudited, IsCertified, IsChecked, IsPlanned, IsRun, IsTabled, List, Option}
use Rattle.camkes_tool.proofs.Common.{Outcome, Plan, Replay, Result, Sections, Some, subst, sym, ℕ, ◌≡◌}
use Rattle.cam_base.specs.declared.error.Unread.TheVariants.{NoMemory}
use Rattle.camkes_tool.specs.Deciding.{told}
use Rattle.camkes_tool.specs.declared.answer.Answer.TheVariants as answers

pub fits_told : (asked : Result Outcome InputError → Type 0) (r : Result Outcome InputError) → asked r → FitsTexts asked (told r)
fits_told asked (Err NoMemory) h = tt
fits_told asked _ h = h

pub no_memory_fits : (asked : Option Command) (contents : Contents) (before now : List ℕ → ℕ)
    → Fits asked contents before now answers.NoMemory
no_memory_fits (Some (Explain root from authority to)) contents before now = tt
no_memory_fits _ contents before now = tt

-- ---- commands and their words, known by equations

module _ (contents : Contents) (before now : List ℕ → ℕ) (command : Command) (answer : Answer) where
  asked_as : (known : Command) → command ≡ known → Fits (Some known) contents before now answer
      → Fits (Some command) contents before now answer
  asked_as known is = subst (λ x. Fits (Some x) contents before now answer) (sym is)

  pub check_fits : (cdl policy cert a b d : List ℕ) → command ≡ Check cdl policy cert → a ≡ cdl → b ≡ policy → d ≡ cert
      → FitsTexts (IsChecked contents before now a b d) answer → Fits (Some command) contents before now answer
  check_fits cdl policy cert a b d is ea eb ed h = asked_as (Check cdl policy cert) is
      (subst (λ x. FitsTexts (IsChecked contents before now x policy cert) answer) ea
      (subst (λ x. FitsTexts (IsChecked contents before now a x cert) answer) eb
      (subst (λ x. FitsTexts (IsChecked contents before now a b x) answer) ed h)))

  pub replay_fits : (cdl policy steps a b d : List ℕ) → command ≡ Replay cdl policy steps → a ≡ cdl → b ≡ policy → d ≡ steps
      → FitsTexts (IsRun contents before now a b d) answer → Fits (Some command) contents before now answer
  replay_fits cdl policy steps a b d is ea eb ed h = asked_as (Replay cdl policy steps) is
      (subst (λ x. FitsTexts (IsRun contents before now x policy steps) answer) ea
      (subst (λ x. FitsTexts (IsRun contents before now a x steps) answer) eb
      (subst (λ x. FitsTexts (IsRun contents before now a b x) answer) ed h)))

  pub audit_fits : (cdl policy a b : List ℕ) → command ≡ Audit cdl policy → a ≡ cdl → b ≡ policy
      → FitsTexts (IsAudited contents before now a b) answer → Fits (Some command) contents before now answer
  audit_fits cdl policy a b is ea eb h = asked_as (Audit cdl policy) is
      (subst (λ x. FitsTexts (IsAudited contents before now x policy) answer) ea
      (subst (λ x. FitsTexts (IsAudited contents before now a x) answer) eb h))

  pub certify_fits : (cdl policy a b : List ℕ) → command ≡ Certify cdl policy → a ≡ cdl → b ≡ policy
      → FitsTexts (IsCertified contents before now a b) answer → Fits (Some command) contents before now answer
  certify_fits cdl policy a b is ea eb h = asked_as (Certify cdl policy) is
      (subst (λ x. FitsTexts (IsCertified contents before now x policy) answer) ea
      (subst (λ x. FitsTexts (IsCertified contents before now a x) answer) eb h))

  pub table_fits : (elf a : List ℕ) → command ≡ Sections elf → a ≡ elf → FitsTexts (IsTabled contents before now a) answer
      → Fits (Some command) contents before now answer
  table_fits elf a is ea h = asked_as (Sections elf) is
      (subst (λ x. FitsTexts (IsTabled contents before now x) answer) ea h)

  pub plan_fits : (cdl untypeds a b : List ℕ) → command ≡ Plan cdl untypeds → a ≡ cdl → b ≡ untypeds
      → FitsTexts (IsPlanned contents before now a b) answer → Fits (Some command) contents before now answer
  plan_fits cdl untypeds a b is ea eb h = asked_as (Plan cdl untypeds) is
      (subst (λ x. FitsTexts (IsPlanned contents before now x untypeds) answer) ea
      (subst (λ x. FitsTexts (IsPlanned contents before now a x) answer) eb h))
