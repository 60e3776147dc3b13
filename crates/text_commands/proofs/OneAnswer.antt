-- For the same contents each command has one answer.
use Rattle.std.proofs.Common.{rules}
use Rattle.text_commands.proofs.Common.{AreOne, AreOneButChoice, Checked, Contents, Entry, Err, InputError, IsAudited, IsCertRead, IsCertified, IsChecked, IsLabelling, IsPlanned, IsPolicy, IsPolicyRead, IsReplayed, IsRun, IsSystem, IsTabled, IsTold}
use Rattle.text_commands.proofs.Common.{Judged, Labels, List, None, Ok, Option, Outcome, Policy, Ran, Refused, Replayed, Result, Some, Spec, Tabled, Verdict, [], answer_but_choice, ap, codes, find, inl, inr, is_none, map, object_label, option_map}
use Rattle.text_commands.proofs.Common.{refl, sym, tell_elf, tell_text, tell_untyped, unlabelled, ℕ, ◌∙◌, ◌∷◌, ◌≡◌, ◌⊎◌}
use Rattle.boot_plan.specs.UntypedTexts as untypeds
use Rattle.cam_base.specs.declared.error.Refused.TheVariants as refused
use Rattle.cam_base.specs.declared.text_fault.TextFault.{TextFault}
use Rattle.capdl_text.proofs.Answered.{read_text}
use Rattle.capdl_text.proofs.Unique.{one_first_fault, one_spec}
use Rattle.capdl_text.specs.Texts as capdl
use Rattle.sect_table.specs.Elf as elf
use Rattle.sect_table.specs.Faults.{class_in}
use Rattle.policy_text.proofs.OneMeaning.{certs_one, policies_one}
use Rattle.step_text.specs.StepTexts as steps
use Rattle.text_commands.proofs.OneDecision.{audit_one, certificate_one, plan_one}
use Rattle.text_commands.proofs.OneReplay.{replay_one}
use Rattle.text_commands.proofs.OneTurn.{ReadsOne, answers_one, then_alike, then_one, told_one, turn_one}
use Rattle.text_commands.proofs.OneVerdict.{verdict_one}
use Rattle.cam_base.proofs.NumberedLists.{somes_one}

-- ---- what is read of bytes

spec_reads : (bytes : List ℕ) → ReadsOne (capdl.IsRead bytes)
spec_reads bytes = record {
  value = one_spec bytes;
  fault = one_first_fault bytes;
  either = λ x e h k. apart x e h (read_text bytes x (Err (refused.Fault e)) k h);
}
  where
    apart : (x : Spec) (e : TextFault) → capdl.Text bytes x
        → (◌≡◌ {A = Result Spec (Refused TextFault)} (Err (refused.Fault e)) (Ok x))
        ⊎ (◌≡◌ {A = Result Spec (Refused TextFault)} (Err (refused.Fault e)) (Err refused.NoMemory)) → ⊥
    apart x e h (inl is) = cc
    apart x e h (inr is) = cc

policy_reads : (bytes : List ℕ) → ReadsOne (IsPolicyRead bytes)
policy_reads bytes = record {
  value = λ x y h k. let same = policies_one bytes (Ok x) (Ok y) tt tt h k in cc;
  fault = λ d e h k. let same = policies_one bytes (Err (refused.Fault d)) (Err (refused.Fault e)) tt tt h k in cc;
  either = λ x e h k. let same = policies_one bytes (Ok x) (Err (refused.Fault e)) tt tt h k in cc;
}

cert_reads : (policy : Policy) (bytes : List ℕ) → ReadsOne (IsCertRead policy bytes)
cert_reads policy bytes = record {
  value = λ x y h k. let same = certs_one policy bytes (Ok x) (Ok y) tt tt h k in cc;
  fault = λ d e h k. let same = certs_one policy bytes (Err (refused.Fault d)) (Err (refused.Fault e)) tt tt h k in cc;
  either = λ x e h k. let same = certs_one policy bytes (Ok x) (Err (refused.Fault e)) tt tt h k in cc;
}

pub step_reads : (spec : Spec) (bytes : List ℕ) → ReadsOne (steps.IsRead spec bytes)
step_reads spec bytes = search (rules)

region_reads : (bytes : List ℕ) → ReadsOne (untypeds.IsRead bytes)
region_reads bytes = record { value = λ x y h k. h.1 ∙ sym k.1; fault = λ d e h k. cc; either = λ x e h k. let none = h.0 in cc }

image_reads : (name bytes : List ℕ) → ReadsOne (elf.IsRead name bytes)
image_reads name bytes = search (rules)

labels_one : (x y : Labels) → x.by_object ≡ y.by_object → x ≡ y
labels_one x y e = let same : ◌≡◌ {A = Labels} (record { by_object = x.by_object }) (record { by_object = y.by_object }) =
    rw e refl in same

module _ (spec : Spec) (policy : Policy) where
  abbrev label_or_none : Entry → Option ℕ
  label_or_none entry = object_label policy.objects entry.name

  all_labelled : (labels : List ℕ) (entries : List Entry) → map (λ n. Some n) labels ≡ map label_or_none entries
      → find (λ entry. is_none (label_or_none entry)) entries ≡ None
  all_labelled [] [] e = refl
  all_labelled (n ∷ labels) (entry ∷ entries) e =
      let head : label_or_none entry ≡ Some n = cc in
      let tail : map (λ n. Some n) labels ≡ map label_or_none entries = cc in
      rw head (all_labelled labels entries tail)
  all_labelled _ _ e = absurd cc

  label_reads : ReadsOne (IsLabelling spec policy)
  label_reads = record {
    value = λ x y h k. labels_one x y (somes_one x.by_object y.by_object (h ∙ sym k));
    fault = λ d e h k. cc;
    either = λ x e h k. let none = all_labelled x.by_object spec.entries h in
        let told : option_map unlabelled (find (λ entry. is_none (label_or_none entry)) spec.entries) ≡ Some e = k in cc;
  }

-- ---- the commands

module _ (m : Contents) (old new later last : List ℕ → ℕ) where
  pub system_one : (cdl : List ℕ) → AreOne (IsSystem m old new cdl) (IsSystem m later last cdl)
  system_one cdl = turn_one m old new later last cdl tell_text capdl.IsRead spec_reads

  pub policy_one : (policy : List ℕ) → AreOne (IsPolicy m old new policy) (IsPolicy m later last policy)
  policy_one policy = turn_one m old new later last policy tell_text IsPolicyRead policy_reads

  pub labelled_one : (spec : Spec) (allowed : Policy) (policy : List ℕ)
      → AreOne (IsTold tell_text policy (IsLabelling spec allowed)) (IsTold tell_text policy (IsLabelling spec allowed))
  labelled_one spec allowed policy = told_one tell_text policy (IsLabelling spec allowed) (label_reads spec allowed)

  pub checked_one : (cdl policy cert : List ℕ)
      → AreOne (IsChecked m old new cdl policy cert) (IsChecked m later last cdl policy cert)
  checked_one cdl policy cert =
      then_one _ _ _ _ (system_one cdl) (λ spec.
      then_one _ _ _ _ (policy_one policy) (λ allowed.
      then_one _ _ _ _ (turn_one m old new later last cert tell_text (IsCertRead allowed) (cert_reads allowed)) (λ edges.
      then_one _ _ _ _ (labelled_one spec allowed policy) (λ labels.
      answers_one (λ outcome. (verdict : Verdict) × (outcome ≡ Checked verdict allowed.labels) × Judged spec labels.by_object
      allowed.edges edges verdict) (λ x y h k.
      let same : h.0 ≡ k.0 = verdict_one spec labels.by_object allowed.edges edges h.0 k.0 h.2 k.2 in
      h.1 ∙ ap (λ z. Checked z allowed.labels) same ∙ sym k.1)))))

  pub ran_one : (cdl policy text : List ℕ) → AreOne (IsRun m old new cdl policy text) (IsRun m later last cdl policy text)
  ran_one cdl policy text =
      then_one _ _ _ _ (system_one cdl) (λ spec.
      then_one _ _ _ _ (policy_one policy) (λ allowed.
      then_one _ _ _ _ (turn_one m old new later last text tell_text (steps.IsRead spec) (step_reads spec)) (λ list.
      then_one _ _ _ _ (labelled_one spec allowed policy) (λ labels.
      answers_one (λ outcome. (replayed : Replayed) × (outcome ≡ Ran replayed allowed.labels) × IsReplayed spec labels.by_object
      list replayed) (λ x y h k.
      let same : h.0 ≡ k.0 = replay_one spec labels.by_object list h.0 k.0 h.2 k.2 in
      h.1 ∙ ap (λ z. Ran z allowed.labels) same ∙ sym k.1)))))

  pub tabled_one : (file : List ℕ) → AreOne (IsTabled m old new file) (IsTabled m later last file)
  tabled_one file = search (rules, then_one, turn_one, image_reads, answers_one)

  pub certified_one : (cdl policy : List ℕ) → AreOne (IsCertified m old new cdl policy) (IsCertified m later last cdl policy)
  certified_one cdl policy = search (rules, then_one, system_one, policy_one, labelled_one, certificate_one)

  abbrev SameButChoice : Result Outcome InputError → Result Outcome InputError → Type 0
  SameButChoice a b = answer_but_choice a ≡ answer_but_choice b

  same_error : (e : InputError) → SameButChoice (Err e) (Err e)
  same_error e = refl

  pub audited_one : (cdl policy : List ℕ) → AreOneButChoice (IsAudited m old new cdl policy) (IsAudited m later last cdl policy)
  audited_one cdl policy =
      then_alike SameButChoice same_error _ _ _ _ (system_one cdl) (λ spec.
      then_alike SameButChoice same_error _ _ _ _ (policy_one policy) (λ allowed.
      then_alike SameButChoice same_error _ _ _ _ (labelled_one spec allowed policy) (λ labels.
      audit_one cdl spec labels.by_object allowed.labels)))

  pub planned_one : (cdl regions : List ℕ)
      → AreOneButChoice (IsPlanned m old new cdl regions) (IsPlanned m later last cdl regions)
  planned_one cdl regions =
      then_alike SameButChoice same_error _ _ _ _ (system_one cdl) (λ spec.
      then_alike SameButChoice same_error _ _ _ _ (turn_one m old new later last regions tell_untyped untypeds.IsRead
      region_reads) (λ given.
      plan_one cdl regions spec given))
