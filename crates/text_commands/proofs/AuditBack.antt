-- The steps of an audit are read back and made.
use Rattle.std.proofs.Common.{rules}
use Rattle.text_commands.proofs.Common.{All, Answers, AreEdgesOf, AreSteps, AuditReport, Audited, Authority, Contents, Done, Edge, Err, Fault, Has, HasReport, Holds, Illegal, InputError, IsAnswer, IsAudited, IsLabelling, IsPolicy, IsReplayed, IsRun}
use Rattle.text_commands.proofs.Common.{IsSystem, IsTold, Labels, List, NoMemory, Ok, Outcome, Policy, Ran, ReadFault, Replayed, Result, Run, Spec, State, Step, Then, ap, arith, boot, inl, kept_text, length, length-append, list_all}
use Rattle.text_commands.proofs.Common.{subst, sym, tell_text, true, ℕ, ◌++◌, ◌<◌, ◌^◌, ◌≡◌, ◌≤◌}
use Rattle.cam_base.specs.Names.{is_name}
use Rattle.capdl_read.proofs.Names.{text_named}
use Rattle.capdl_text.specs.Texts as capdl
use Rattle.policy_text.specs.EdgeLines as lines
use Rattle.step_text.proofs.Lengths.{steps_short}
use Rattle.step_text.proofs.Runs.{run_readable}
use Rattle.step_text.proofs.Written.{no_fault, read_back}
use Rattle.step_text.specs.Readable.{IsReadable}
use Rattle.step_text.specs.StepTexts as steps
use Rattle.step_text.specs.StepLines.{steps_text}
use Rattle.text_commands.proofs.OneAnswer.{labelled_one, policy_one, step_reads, system_one}
use Rattle.text_commands.proofs.OneReplay.{not_done, run_one}
use Rattle.text_commands.proofs.OneTurn.{then_goes, turn_one}
use Rattle.text_commands.proofs.Turning.{then_ok, turn_read}

-- what an audit read and found
record IsAuditOf (m : Contents) (old new : List ℕ → ℕ) (cdl policy : List ℕ) (report : AuditReport) (spec : Spec)
    (names : lines.LabelNames) : Type 0 where
  pub allowed : Policy
  pub labels : Labels
  pub system : IsSystem m old new cdl (Ok spec)
  pub read : IsPolicy m old new policy (Ok allowed)
  pub labelled : IsLabelling spec allowed (Ok labels)
  pub named : names ≡ allowed.labels
  pub has : HasReport spec labels.by_object report

audit_of : (m : Contents) (old new : List ℕ → ℕ) (cdl policy : List ℕ) (report : AuditReport) (spec : Spec)
    (names : lines.LabelNames)
    → IsAudited m old new cdl policy (Ok (Audited report spec names))
    → IsAuditOf m old new cdl policy report spec names
audit_of m old new cdl policy report spec names audited = search (rules, then_ok)

module _ (m : Contents) (old new later last : List ℕ → ℕ) (cdl policy : List ℕ) (report : AuditReport) (spec : Spec)
    (names : lines.LabelNames)
    (audited : IsAudited m old new cdl policy (Ok (Audited report spec names))) where
  abbrev audit : IsAuditOf m old new cdl policy report spec names
  audit = audit_of m old new cdl policy report spec names audited

  abbrev numbers : List ℕ
  numbers = audit.labels.by_object

  capdl_text : (bytes : List ℕ) × capdl.Text bytes spec
  capdl_text = turn_read tell_text capdl.IsRead cdl m old new spec audit.system

  objects_named : list_all (λ entry. is_name entry.name) spec.entries ≡ true
  objects_named = text_named capdl_text.0 spec capdl_text.1

  all_read : (list : List Step) (state : State) → Run spec (boot spec) list state → length list < 2 ^ 63
      → All (IsReadable spec) list
  all_read list state run few = run_readable spec (kept_text capdl_text.0 spec capdl_text.1) objects_named list state run few

  pub audit_readable : length report.steps < 2 ^ 63 → All (IsReadable spec) report.steps
  audit_readable few = let run = audit.has.shown.run in all_read report.steps run.0 run.1 few

  module _ (list : List Step) (state : State) (run : Run spec (boot spec) list state) (few : length list ≤ 100000) (file : List ℕ)
      (held : Holds m file (steps_text spec list)) where
    readable : All (IsReadable spec) list
    readable = all_read list state run (omega (arith, few))

    short : length (steps_text spec list) ≤ 67108864
    short = let s = steps_short spec objects_named list readable in omega (arith, s, few)

    are_read : AreSteps m later last spec file (Ok list)
    are_read =
        inl (steps_text spec list, (short, held), (no_fault spec list readable few short, sym (read_back spec list readable)))

    made_of : (replayed : Replayed) (answer : Result Outcome InputError) → answer ≡ Ok (Ran replayed audit.allowed.labels)
        → IsReplayed spec numbers list replayed
        → (edges : List Edge) × (answer ≡ Ok (Ran (Done (length list) edges) names)) × AreEdgesOf spec numbers state edges
    made_of (Done count edges) answer is replayed = search (rules, run_one)
    made_of (Illegal number why) answer is replayed = absurd (not_done spec list state replayed.0 why run replayed.2)

    answered : (answer : Result Outcome InputError) → IsAnswer answer
        → Answers (λ outcome. (replayed : Replayed) × (outcome ≡ Ran replayed audit.allowed.labels) × IsReplayed spec numbers list
        replayed) answer
        → (edges : List Edge) × (answer ≡ Ok (Ran (Done (length list) edges) names)) × AreEdgesOf spec numbers state edges
    answered (Ok outcome) is h = made_of h.0 (Ok outcome) (ap (λ z. Ok z) h.1) h.2
    answered (Err (Fault fault f)) is h = absurd h
    answered (Err (ReadFault f)) is h = absurd is
    answered (Err NoMemory) is h = absurd is

    -- what follows the system, the policy, the steps and the labels
    abbrev WithLabels : Spec → Policy → List Step → Labels → Result Outcome InputError → Type 0
    WithLabels system allowed given labels = Answers (λ outcome. (replayed : Replayed) × (outcome ≡ Ran replayed allowed.labels)
        × IsReplayed system labels.by_object given replayed)

    abbrev WithSteps : Spec → Policy → List Step → Result Outcome InputError → Type 0
    WithSteps system allowed given = Then (IsTold tell_text policy (IsLabelling system allowed)) (WithLabels system allowed given)

    abbrev WithPolicy : Spec → Policy → Result Outcome InputError → Type 0
    WithPolicy system allowed = Then (AreSteps m later last system file) (WithSteps system allowed)

    abbrev WithSystem : Spec → Result Outcome InputError → Type 0
    WithSystem system = Then (IsPolicy m later last policy) (WithPolicy system)

    made : (answer : Result Outcome InputError) → IsAnswer answer → IsRun m later last cdl policy file answer
        → (edges : List Edge) × (answer ≡ Ok (Ran (Done (length list) edges) names)) × AreEdgesOf spec numbers state edges
    made answer is h =
        let a = then_goes (IsSystem m old new cdl) (IsSystem m later last cdl) WithSystem (system_one m old new later last cdl)
        spec audit.system answer is h in
        let b = then_goes (IsPolicy m old new policy) (IsPolicy m later last policy) (WithPolicy spec)
        (policy_one m old new later last policy) audit.allowed audit.read answer is a in
        let c = then_goes (AreSteps m later last spec file) (AreSteps m later last spec file) (WithSteps spec audit.allowed)
        (turn_one m later last later last file tell_text (steps.IsRead spec) (step_reads spec)) list are_read answer is b in
        let told = IsTold tell_text policy (IsLabelling spec audit.allowed) in
        let d = then_goes told told (WithLabels spec audit.allowed list) (labelled_one m old new later last spec audit.allowed
        policy) audit.labels audit.labelled answer is c in
        answered answer is d

  pub audit_replayed : (file : List ℕ) (answer : Result Outcome InputError) → length report.steps ≤ 100000
      → Holds m file (steps_text spec report.steps) → IsAnswer answer
      → IsRun m later last cdl policy file answer
      → (edges : List Edge) × (answer ≡ Ok (Ran (Done (length report.steps) edges) names))
  audit_replayed file answer few held is h =
      let run = audit.has.shown.run in
      let all = made report.steps run.0 run.1 few file held answer is h in
      (all.0, all.1)

  pub audit_shown : length report.steps ≤ 100000 → (l : ℕ) (a : Authority) (x : ℕ) → Has report.edges l a x
      → (front back : List Step) × (report.steps ≡ front ++ back)
      × ((file : List ℕ) (answer : Result Outcome InputError) → Holds m file (steps_text spec front) → IsAnswer answer
      → IsRun m later last cdl policy file answer
      → (edges : List Edge) × (answer ≡ Ok (Ran (Done (length front) edges) names)) × Has edges l a x)
  audit_shown few l a x has =
      let shows = audit.has.shown.shown l a x has in
      let whole = length-append shows.front shows.back in
      let parts : length report.steps ≡ length (shows.front ++ shows.back) = ap (λ (z : List Step). length z) shows.parts in
      let fewer : length shows.front ≤ 100000 = omega (arith, few, whole, parts) in (
        shows.front,
        shows.back,
        shows.parts,
        λ file answer held is h.
            let all = made shows.front shows.state shows.run fewer file held answer is h in
            (all.0, all.1, (all.2.same l a x).1 shows.auth),
      )
