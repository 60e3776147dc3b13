-- Of a system one thing is decided.
use Rattle.std.proofs.Common.{rules}
use Rattle.text_commands.proofs.Common.{AreOne, AreOneButChoice, AuditReport, Audited, Certified, CloseRefused, Edge, Err, HasMoreThan, HasReport, InputFault, IsAudit, IsAuditable, IsCertificate, IsCertificateOf, IsPlan, List, None, Ok, Option}
use Rattle.text_commands.proofs.Common.{Planned, Some, Spec, [], answer_but_choice, ap, arith, cases_lt, has, inl, inr, one_table, one_truth, refl, sym, tell_audit, tell_close, tell_plan, ℕ, ◌<◌, ◌∙◌, ◌≡◌, ◌≤◌, ◌⊎◌}
use Rattle.boot_plan.specs.Devices.{device_refusal}
use Rattle.boot_plan.specs.Needs.{needs}
use Rattle.boot_plan.specs.Overlaps.{first_overlap}
use Rattle.boot_plan.specs.Plans as plans
use Rattle.boot_plan.specs.Rooms as rooms
use Rattle.boot_plan.specs.Rooms.{LacksRoom, needed}
use Rattle.boot_plan.specs.declared.need.Need.{Need}
use Rattle.boot_plan.specs.declared.plan_refusal.BootPlan.{BootPlan}
use Rattle.boot_plan.specs.declared.plan_refusal.PlanRefusal.{PlanRefusal}
use Rattle.boot_plan.specs.declared.plan_refusal.PlanRefusal.TheVariants as planning
use Rattle.cap_audit.specs.Reports.{AuditRefused}
use Rattle.cap_audit.specs.declared.report.AuditRefusal.{AuditRefusal}
use Rattle.cap_audit.specs.declared.report.AuditRefusal.TheVariants as auditing
use Rattle.cap_audit.specs.Refusals.{IsFirstThread}
use Rattle.policy_text.specs.EdgeLines.{LabelNames}
use Rattle.least_cert.specs.declared.closing.CloseError.{CloseError}
use Rattle.least_cert.specs.declared.closing.CloseError.TheVariants as closing
use Rattle.text_commands.proofs.OneTurn.{decided_alike}
use Rattle.cap_model.proofs.EdgeLists.{no_more}
use Rattle.boot_plan.specs.declared.untyped.Untyped.{Untyped}

-- ---- audits

module _ (cdl : List ℕ) (spec : Spec) (labels : List ℕ) (names : LabelNames) where
  firsts_one : (c d i j : ℕ) → IsFirstThread spec c i → IsFirstThread spec d j → (c ≡ d) × (i ≡ j)
  firsts_one c d i j a b = go (a.first d j b.cap b.there b.thread) (b.first c i a.cap a.there a.thread)
    where
      go : (c < d) ⊎ ((c ≡ d) × (i ≤ j)) → (d < c) ⊎ ((d ≡ c) × (j ≤ i)) → (c ≡ d) × (i ≡ j)
      go (inl less) (inl more) = absurd (let no : ⊥ = omega (arith, less, more) in no)
      go (inl less) (inr (same, most)) = absurd (let no : ⊥ = omega (arith, less, same) in no)
      go (inr (same, least)) (inl more) = absurd (let no : ⊥ = omega (arith, same, more) in no)
      go (inr (same, least)) (inr (other, most)) = (same, omega (arith, least, most))

  audit_refusals_one : (q r : AuditRefusal) (p o : InputFault × List ℕ) → tell_audit cdl spec q ≡ Some p
      → tell_audit cdl spec r ≡ Some o → AuditRefused spec q → AuditRefused spec r → q ≡ r
  audit_refusals_one (auditing.HoldsTcb c i) (auditing.HoldsTcb d j) p o s t a b =
      let same = firsts_one c d i j a b in
      let cnodes : c ≡ d = same.0 in
      let slots : i ≡ j = same.1 in
      cc
  audit_refusals_one (auditing.HoldsTcb c i) (auditing.Limit n k) p o s t a b = absurd (b.0 c i a.cap a.there a.thread)
  audit_refusals_one (auditing.Limit n k) (auditing.HoldsTcb d j) p o s t a b = absurd (a.0 d j b.cap b.there b.thread)
  audit_refusals_one (auditing.Limit n k) (auditing.Limit l m) p o s t a b = search (rules)
  audit_refusals_one auditing.NoMemory r p o s t a b = absurd cc
  audit_refusals_one (auditing.HoldsTcb c i) auditing.NoMemory p o s t a b = absurd cc
  audit_refusals_one (auditing.Limit n k) auditing.NoMemory p o s t a b = absurd cc

  not_auditable : (r : AuditRefusal) (p : InputFault × List ℕ) → tell_audit cdl spec r ≡ Some p → IsAuditable spec
      → AuditRefused spec r → ⊥
  not_auditable (auditing.HoldsTcb c i) p t a b = a.none c i b.cap b.there b.thread
  not_auditable (auditing.Limit n k) p t a (none, cnodes, caps, over) = search (rules)
  not_auditable auditing.NoMemory p t a b = cc

  reports_one : (a b : AuditReport) → HasReport spec labels a → HasReport spec labels b → a.edges ≡ b.edges
  reports_one a b x y =
      one_table a.edges b.edges x.sorted y.sorted (λ e.
      one_truth (has a.edges e) (has b.edges e) (λ h. (y.shown.reached e.from e.authority e.to).1
      ((x.shown.reached e.from e.authority e.to).0 h))
      (λ h. (x.shown.reached e.from e.authority e.to).1 ((y.shown.reached e.from e.authority e.to).0 h)))

  pub audit_one : AreOneButChoice (IsAudit cdl spec labels names) (IsAudit cdl spec labels names)
  audit_one = search (rules, decided_alike, reports_one, audit_refusals_one, not_auditable)

-- ---- certificates

module _ (cdl : List ℕ) (spec : Spec) (labels : List ℕ) where
  certificates_one : (a b : List Edge) → IsCertificate spec labels a → IsCertificate spec labels b → a ≡ b
  certificates_one a b x y =
      one_table a b x.sorted y.sorted (λ e.
      one_truth (has a e) (has b e) (λ h. y.least.each e.from e.authority e.to (x.least.only e.from e.authority e.to h))
      (λ h. x.least.each e.from e.authority e.to (y.least.only e.from e.authority e.to h)))

  not_more : (cert : List Edge) → IsCertificate spec labels cert → HasMoreThan spec labels 262144 → ⊥
  not_more cert x many =
      let few = x.few in
      let fewer = no_more many.edges cert many.sorted
      (λ e h. x.least.each e.from e.authority e.to (many.each e.from e.authority e.to h)) in
      let more = many.more in
      omega (arith, few, fewer, more)

  close_errors_one : (q r : CloseError) (p o : InputFault × List ℕ) → tell_close cdl q ≡ Some p → tell_close cdl r ≡ Some o
      → CloseRefused spec labels q → CloseRefused spec labels r → q ≡ r
  close_errors_one closing.Limit closing.Limit p o s t a b = refl
  close_errors_one closing.Limit closing.NoMemory p o s t a b = absurd cc
  close_errors_one closing.NoMemory r p o s t a b = absurd cc

  not_closed : (cert : List Edge) (r : CloseError) (p : InputFault × List ℕ) → tell_close cdl r ≡ Some p
      → IsCertificate spec labels cert → CloseRefused spec labels r → ⊥
  not_closed cert closing.Limit p t x b = not_more cert x b
  not_closed cert closing.NoMemory p t x b = cc

  pub certificate_one : AreOne (IsCertificateOf cdl spec labels) (IsCertificateOf cdl spec labels)
  certificate_one =
      decided_alike (tell_close cdl) (λ outcome. (cert : List Edge) × (outcome ≡ Certified cert) × IsCertificate spec labels cert)
      (CloseRefused spec labels)
      (λ a b. a ≡ b) (λ e. refl) (record {
        value = λ x y h k.
            let certs : h.0 ≡ k.0 = certificates_one h.0 k.0 h.2 k.2 in
            ap (λ z. Ok z) (h.1 ∙ ap (λ z. Certified z) certs ∙ sym k.1);
        refusal = close_errors_one;
        either = λ x r p t h b. not_closed h.0 r p t h.2 b;
      })

-- ---- plans

module _ (cdl untypeds : List ℕ) (spec : Spec) (regions : List Untyped) where
  rooms_one : (ns : List Need) (bits other need had have has : ℕ) → LacksRoom ns regions bits need have
      → LacksRoom ns regions other had has → (bits ≡ other) × (need ≡ had) × (have ≡ has)
  rooms_one ns bits other need had have has a b = search (rules, cases_lt)

  overlap_first : (ns : List Need) (first second : ℕ) (r : PlanRefusal) (p : InputFault × List ℕ)
      → tell_plan cdl untypeds spec r ≡ Some p → first_overlap regions ≡ Some (first, second)
      → plans.Refuses ns regions r → planning.Overlap first second ≡ r
  overlap_first ns first second (planning.Overlap other earlier) p t a b = search (rules)
  overlap_first ns first second (planning.NoDevice frame) p t a b = let none : first_overlap regions ≡ None = b.0 in absurd cc
  overlap_first ns first second (planning.SharedFrame frame) p t a b = let none : first_overlap regions ≡ None = b.0 in absurd cc
  overlap_first ns first second (planning.NoRoom bits need have) p t a b = let none : first_overlap regions ≡ None =
      b.0.regions in absurd cc
  overlap_first ns first second planning.NoMemory p t a b = absurd cc

  abbrev device_first : List Need → PlanRefusal → Type 0
  device_first ns q = device_refusal regions [] 0 ns ≡ Some q

  of_device : (ns : List Need) (q r : PlanRefusal) (p : InputFault × List ℕ) → tell_plan cdl untypeds spec r ≡ Some p
      → first_overlap regions ≡ None → device_first ns q → plans.Refuses ns regions r → q ≡ r
  of_device ns q (planning.Overlap first second) p t none d b = absurd cc
  of_device ns q (planning.NoDevice frame) p t none d b = let there : device_refusal regions [] 0 ns ≡ Some
      (planning.NoDevice frame) = b.1 in cc
  of_device ns q (planning.SharedFrame frame) p t none d b = let there : device_refusal regions [] 0 ns ≡ Some
      (planning.SharedFrame frame) = b.1 in cc
  of_device ns q (planning.NoRoom bits need have) p t none d b = let lacks : device_refusal regions [] 0 ns ≡ None =
      b.0.devices in absurd cc
  of_device ns q planning.NoMemory p t none d b = absurd cc

  plan_refusals_one : (ns : List Need) (q r : PlanRefusal) (p o : InputFault × List ℕ) → tell_plan cdl untypeds spec q ≡ Some p
      → tell_plan cdl untypeds spec r ≡ Some o
      → plans.Refuses ns regions q → plans.Refuses ns regions r → q ≡ r
  plan_refusals_one ns (planning.Overlap first second) r p o s t a b = overlap_first ns first second r o t a b
  plan_refusals_one ns (planning.NoDevice frame) r p o s t a b = of_device ns (planning.NoDevice frame) r o t a.0 a.1 b
  plan_refusals_one ns (planning.SharedFrame frame) r p o s t a b = of_device ns (planning.SharedFrame frame) r o t a.0 a.1 b
  plan_refusals_one ns (planning.NoRoom bits need have) (planning.NoRoom other had has) p o s t a b = search (rules, rooms_one)
  plan_refusals_one ns (planning.NoRoom bits need have) (planning.Overlap first second) p o s t a b =
      let none : first_overlap regions ≡ None = a.0.regions in absurd cc
  plan_refusals_one ns (planning.NoRoom bits need have) (planning.NoDevice frame) p o s t a b =
      sym (of_device ns (planning.NoDevice frame) (planning.NoRoom bits need have) p s b.0 b.1 a)
  plan_refusals_one ns (planning.NoRoom bits need have) (planning.SharedFrame frame) p o s t a b =
      sym (of_device ns (planning.SharedFrame frame) (planning.NoRoom bits need have) p s b.0 b.1 a)
  plan_refusals_one ns (planning.NoRoom bits need have) planning.NoMemory p o s t a b = absurd cc
  plan_refusals_one ns planning.NoMemory r p o s t a b = absurd cc

  not_planned : (ns : List Need) (places : List (Option ℕ)) (r : PlanRefusal) (p : InputFault × List ℕ)
      → tell_plan cdl untypeds spec r ≡ Some p → plans.Places ns regions places → plans.Refuses ns regions r → ⊥
  not_planned ns places (planning.Overlap first second) p t a b = let none : first_overlap regions ≡ None = a.free.regions in cc
  not_planned ns places (planning.NoDevice frame) p t a (none, there) = let lacks : device_refusal regions [] 0 ns ≡ None =
      a.free.devices in cc
  not_planned ns places (planning.SharedFrame frame) p t a (none, there) = let lacks : device_refusal regions [] 0 ns ≡ None =
      a.free.devices in cc
  not_planned ns places (planning.NoRoom bits need have) p t a (free, lacks, none) = none places a.placed
  not_planned ns places planning.NoMemory p t a b = cc

  pub plan_one : AreOneButChoice (IsPlan cdl untypeds spec regions) (IsPlan cdl untypeds spec regions)
  plan_one = search (rules, decided_alike, plan_refusals_one, not_planned)
