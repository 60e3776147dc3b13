-- What is decided of systems that are read, and how a refusal is told: as a fault of a whole file, with a name that says what is
-- refused.
use Rattle.std.specs.Prelude.{◌≡◌, ◌≤◌, ◌*◌, ℕ, List, [], ◌++◌, codes, decimal, length, Option, Some, None, Result, Ok, Err}
use Rattle.cap_model.specs.Tables.{IsSorted}
use Rattle.cap_model.specs.declared.edge.Edge.{Edge}
use Rattle.boot_plan.specs.Plans as plans
use Rattle.boot_plan.specs.declared.plan_refusal.BootPlan.{BootPlan}
use Rattle.boot_plan.specs.declared.plan_refusal.PlanRefusal.{PlanRefusal}
use Rattle.boot_plan.specs.declared.plan_refusal.PlanRefusal.TheVariants as planning
use Rattle.boot_plan.specs.declared.untyped.Untyped.{Untyped}
use Rattle.cam_base.specs.Hex.{hex_text}
use Rattle.cap_audit.specs.Counts.{caps_of, cnodes_of}
use Rattle.cap_audit.specs.Reports.{AuditRefused, IsReport}
use Rattle.cap_audit.specs.declared.report.AuditRefusal.{AuditRefusal}
use Rattle.cap_audit.specs.declared.report.AuditRefusal.TheVariants as auditing
use Rattle.cap_audit.specs.declared.report.AuditReport.{AuditReport}
use Rattle.cap_model.specs.Lookup.{name_at}
use Rattle.cap_model.specs.declared.spec.Spec.{Spec}
use Rattle.cap_audit.specs.Spread.{HoldsNoThread}
use Rattle.policy_text.specs.EdgeLines.{LabelNames}
use Rattle.least_cert.specs.LeastCertificate.{CloseRefused, IsLeast}
use Rattle.least_cert.specs.declared.closing.CloseError.{CloseError}
use Rattle.least_cert.specs.declared.closing.CloseError.TheVariants as closing
use Rattle.text_commands.specs.Inputs.{Decided}
use Rattle.text_commands.specs.declared.code.Hindrance.{Hindrance}
use Rattle.text_commands.specs.declared.code.Hindrance.TheVariants as hindrances
use Rattle.text_commands.specs.declared.code.InputCode.TheVariants.{Hindered}
use Rattle.text_commands.specs.InputErrors.{InputError}
use Rattle.text_commands.specs.declared.fault.InputFault.{InputFault}
use Rattle.text_commands.specs.declared.outcome.Outcome.{Outcome}
use Rattle.text_commands.specs.declared.outcome.Outcome.TheVariants.{Audited, Certified, Planned}

-- two words, with a space between them
abbrev pub words : List ℕ → List ℕ → List ℕ
words first second = first ++ codes " " ++ second

-- what hinders, told of a whole file
abbrev pub hindered : Hindrance → List ℕ → InputFault
hindered hindrance name = record { code = Hindered hindrance; first = 0; end = 0; name = name }

-- ---- audits

-- `c 0x1`, `2001 2001`
abbrev pub tell_audit : List ℕ → Spec → AuditRefusal → Option (InputFault × List ℕ)
tell_audit cdl spec (auditing.HoldsTcb cnode slot) =
    Some (hindered hindrances.HoldsTcb (words (name_at spec cnode) (hex_text slot)), cdl)
tell_audit cdl spec (auditing.Limit cnodes caps) =
    Some (hindered hindrances.AuditLimit (words (decimal cnodes) (decimal caps)), cdl)
tell_audit cdl spec auditing.NoMemory = None

-- an audit is allowed where no CNode holds a capability to a thread, and there aren't too many CNodes and capabilities
pub record IsAuditable (spec : Spec) : Type 0 where
  pub none : HoldsNoThread spec
  pub few : cnodes_of spec * caps_of spec ≤ 4000000

-- the edges, in their order, that runs of an auditable system reach, with steps that show each
pub record HasReport (spec : Spec) (labels : List ℕ) (report : AuditReport) : Type 0 where
  pub auditable : IsAuditable spec
  pub sorted : IsSorted report.edges
  pub shown : IsReport spec labels report.edges report.steps

-- the report of an auditable system, or why it is none
abbrev pub IsAudit : List ℕ → Spec → List ℕ → LabelNames → Result Outcome InputError → Type 0
IsAudit cdl spec labels names =
    Decided (tell_audit cdl spec)
    (λ outcome. (report : AuditReport) × (outcome ≡ Audited report spec names) × HasReport spec labels report)
    (AuditRefused spec)

-- ---- least certificates

abbrev pub tell_close : List ℕ → CloseError → Option (InputFault × List ℕ)
tell_close cdl closing.Limit = Some (hindered hindrances.CertificateLimit [], cdl)
tell_close cdl closing.NoMemory = None

-- the edges, in their order, of the least certificate, which aren't too many
pub record IsCertificate (spec : Spec) (labels : List ℕ) (cert : List Edge) : Type 0 where
  pub few : length cert ≤ 262144
  pub sorted : IsSorted cert
  pub least : IsLeast spec labels cert

-- the least certificate, or that it has too many edges
abbrev pub IsCertificateOf : List ℕ → Spec → List ℕ → Result Outcome InputError → Type 0
IsCertificateOf cdl spec labels =
    Decided (tell_close cdl)
    (λ outcome. (cert : List Edge) × (outcome ≡ Certified cert) × IsCertificate spec labels cert)
    (CloseRefused spec labels)

-- ---- plans

-- `12 69632 65536`, `0 1`, `f`
abbrev pub tell_plan : List ℕ → List ℕ → Spec → PlanRefusal → Option (InputFault × List ℕ)
tell_plan cdl untypeds spec (planning.NoRoom bits need have) =
    Some (hindered hindrances.NoRoom (words (decimal bits) (words (decimal need) (decimal have))), untypeds)
tell_plan cdl untypeds spec (planning.Overlap first second) =
    Some (hindered hindrances.Overlap (words (decimal first) (decimal second)), untypeds)
tell_plan cdl untypeds spec (planning.NoDevice frame) = Some (hindered hindrances.NoDevice (name_at spec frame), cdl)
tell_plan cdl untypeds spec (planning.SharedFrame frame) = Some (hindered hindrances.SharedFrame (name_at spec frame), cdl)
tell_plan cdl untypeds spec planning.NoMemory = None

-- a placement of all objects in the regions, or the first refusal
abbrev pub IsPlan : List ℕ → List ℕ → Spec → List Untyped → Result Outcome InputError → Type 0
IsPlan cdl untypeds spec regions =
    Decided (tell_plan cdl untypeds spec)
    (λ outcome. (plan : BootPlan) × (outcome ≡ Planned plan spec) × plans.IsPlanned spec regions (Ok plan))
    (λ refusal. plans.IsPlanned spec regions (Err refusal))
