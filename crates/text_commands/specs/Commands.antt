-- What each command over texts answers, with the contents and the counts of the files: its inputs are read in written order, and
-- then objects are labelled.
use Rattle.std.specs.Prelude.{◌≡◌, ℕ, List, Option, Result, codes}
use Rattle.cap_model.specs.declared.edge.Edge.{Edge}
use Rattle.cap_model.specs.declared.policy.Policy.{Policy}
use Rattle.boot_plan.specs.UntypedTexts as untypeds
use Rattle.boot_plan.specs.declared.untyped.Untyped.{Untyped}
use Rattle.cam_io.specs.Contents.{Contents}
use Rattle.cap_machine.specs.declared.step.Step.{Step}
use Rattle.cap_model.specs.declared.spec.Spec.{Spec}
use Rattle.capdl_text.specs.Texts as capdl
use Rattle.cert_check.specs.Verdicts.{Judged}
use Rattle.cert_check.specs.declared.verdict.Verdict.{Verdict}
use Rattle.sect_table.specs.Elf as elf
use Rattle.policy_text.specs.Labelled.{IsLabelling}
use Rattle.policy_text.specs.PolicyTexts.{IsCertRead, IsPolicyRead}
use Rattle.sect_table.specs.declared.image.Image.{Image}
use Rattle.step_text.specs.StepTexts as steps
use Rattle.text_commands.specs.Codes.{tell_elf, tell_text, tell_untyped}
use Rattle.text_commands.specs.Decisions.{IsAudit, IsCertificateOf, IsPlan}
use Rattle.text_commands.specs.Inputs.{Answers, IsTold, Then, Turn}
use Rattle.text_commands.specs.Replays.{IsReplayed}
use Rattle.text_commands.specs.InputErrors.{InputError}
use Rattle.text_commands.specs.declared.outcome.Outcome.{Outcome}
use Rattle.text_commands.specs.declared.outcome.Outcome.TheVariants.{Checked, Ran, Tabled}
use Rattle.text_commands.specs.declared.replay.Replayed.{Replayed}

module _ (contents : Contents) (before now : List ℕ → ℕ) where
  -- ---- the turns of inputs

  abbrev pub IsSystem : List ℕ → Result Spec InputError → Type 0
  IsSystem = Turn contents before now tell_text capdl.IsRead

  abbrev pub IsPolicy : List ℕ → Result Policy InputError → Type 0
  IsPolicy = Turn contents before now tell_text IsPolicyRead

  abbrev pub IsCert : Policy → List ℕ → Result (List Edge) InputError → Type 0
  IsCert policy = Turn contents before now tell_text (IsCertRead policy)

  abbrev pub AreSteps : Spec → List ℕ → Result (List Step) InputError → Type 0
  AreSteps spec = Turn contents before now tell_text (steps.IsRead spec)

  -- an image has some name, which its table doesn't tell
  abbrev pub IsImage : List ℕ → Result Image InputError → Type 0
  IsImage = Turn contents before now tell_elf (elf.IsRead (codes "image"))

  abbrev pub AreRegions : List ℕ → Result (List Untyped) InputError → Type 0
  AreRegions = Turn contents before now tell_untyped untypeds.IsRead

  -- ---- the commands

  -- the checker's verdict
  abbrev pub IsChecked : List ℕ → List ℕ → List ℕ → Result Outcome InputError → Type 0
  IsChecked cdl policy cert =
      Then (IsSystem cdl) (λ spec. Then (IsPolicy policy) (λ allowed. Then (IsCert allowed cert) (λ edges.
      Then (IsTold tell_text policy (IsLabelling spec allowed)) (λ labels. Answers (λ outcome.
      (verdict : Verdict) × (outcome ≡ Checked verdict allowed.labels)
      × Judged spec labels.by_object allowed.edges edges verdict)))))

  -- what the steps lead to
  abbrev pub IsRun : List ℕ → List ℕ → List ℕ → Result Outcome InputError → Type 0
  IsRun cdl policy steps =
      Then (IsSystem cdl) (λ spec. Then (IsPolicy policy) (λ allowed. Then (AreSteps spec steps) (λ list.
      Then (IsTold tell_text policy (IsLabelling spec allowed)) (λ labels. Answers (λ outcome.
      (replayed : Replayed) × (outcome ≡ Ran replayed allowed.labels) × IsReplayed spec labels.by_object list replayed)))))

  -- the section table of an ELF file
  abbrev pub IsTabled : List ℕ → Result Outcome InputError → Type 0
  IsTabled file = Then (IsImage file) (λ (image : Image). Answers (λ outcome. outcome ≡ Tabled image))

  -- the edges that runs reach, with steps that show each
  abbrev pub IsAudited : List ℕ → List ℕ → Result Outcome InputError → Type 0
  IsAudited cdl policy =
      Then (IsSystem cdl) (λ spec. Then (IsPolicy policy) (λ allowed.
      Then (IsTold tell_text policy (IsLabelling spec allowed)) (λ labels. IsAudit cdl spec labels.by_object allowed.labels)))

  -- the least certificate
  abbrev pub IsCertified : List ℕ → List ℕ → Result Outcome InputError → Type 0
  IsCertified cdl policy =
      Then (IsSystem cdl) (λ spec. Then (IsPolicy policy) (λ allowed.
      Then (IsTold tell_text policy (IsLabelling spec allowed)) (λ labels. IsCertificateOf cdl spec labels.by_object)))

  -- places of all objects in regions of untyped memory
  abbrev pub IsPlanned : List ℕ → List ℕ → Result Outcome InputError → Type 0
  IsPlanned cdl untypeds = Then (IsSystem cdl) (λ spec. Then (AreRegions untypeds) (IsPlan cdl untypeds spec))
