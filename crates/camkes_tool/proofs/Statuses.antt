-- Statuses are exact where contents are told and nothing failed.
use Rattle.std.proofs.Common.{rules}
use Rattle.camkes_tool.proofs.Common.{Answer, AreOneButChoice, Audit, Bool, Build, Certify, Check, Command, Compile, Compiled, Contents, Err, Explain, Explained, Faulted, Fits, FitsCompiled, FitsTexts}
use Rattle.camkes_tool.proofs.Common.{Generate, HasFault, HasNoFault, InputError, IsAudited, IsBuildOf, IsCertified, IsGenerated, IsPlanned, IsRun, IsStatus, IsStatusOf, IsStatusOfSource, IsStatusOfTexts}
use Rattle.camkes_tool.proofs.Common.{IsTabled, List, NoMemory, None, NoneRose, Ok, Option, Outcome, Plan, ReadFault, Refused, Replay, Result, Rose, Sections, Sink, Some, SourceError, Tells, Told, Usage, ap, arith, audited_one}
use Rattle.camkes_tool.proofs.Common.{but_choice, certified_one, checked_one, cond, false, inl, inr, is_assigned, is_well, none_first, one_explained, one_listing, planned_one, ran_one, refl, status_of, sym, tabled_one, true, ℕ, ◌∙◌, ◌≡◌, ◌⊎◌}
use Rattle.command_words.specs.declared.command.Command.TheVariants.{List as ListOf}
use Rattle.cam_base.specs.declared.error.Unread.TheVariants as errors
use Rattle.cam_base.specs.declared.place.Fault.{Fault}
use Rattle.camkes_tool.specs.Answers.{FitsRefused}
use Rattle.camkes_tool.proofs.OneGenerated.{one_generated}
use Rattle.camkes_tool.proofs.OneAnswer.{AreOneOf, IsFoundBy, but_choice_one, explained_by, generated_by, listed_by, well_one}
use Rattle.camkes_tool.proofs.ReadFaults.{audit_rose, certify_rose, check_rose, plan_rose, run_rose, table_rose}

built_sound : (m : Contents) (root : List ℕ) (b : Build) → IsBuildOf root m b → HasNoFault m root
built_sound m root b is = (b.meaning.source, is.meant.loaded, is.clean)

of_root : (m : Contents) (root base : List ℕ) (old new : List ℕ → ℕ) (a : Answer) (status : ℕ)
    → FitsCompiled root base m old new a → NoneRose old new → status ≡ status_of a → IsStatusOf m root status
of_root m root base old new (Compiled names b) status x none e = inl (e, built_sound m root b x.1)
of_root m root base old new (Faulted file fault) status x none e = inr (inl (e, (fault, file, x)))
of_root m root base old new (ReadFault file) status x none e = absurd (none file x.1)
of_root m root base old new NoMemory status x none e = inr (inr e)
of_root m root base old new _ status x none e = absurd x

of_usage : (m : Contents) (old new : List ℕ → ℕ) (a : Answer) (status : ℕ) → Fits None m old new a → status ≡ status_of a
    → IsStatus m old new None status
of_usage m old new Usage status x e = inl e
of_usage m old new NoMemory status x e = inr e
of_usage m old new _ status x e = absurd x

of_texts : (asked : Result Outcome InputError → Type 0) (a : Answer) (status : ℕ)
    → ((file : List ℕ) → asked (Err (errors.ReadFault file)) → ⊥) → FitsTexts asked a → status ≡ status_of a
    → IsStatusOfTexts asked status
of_texts asked (Told outcome) status none x e = inl (outcome, x, e)
of_texts asked (Refused file fault) status none x e = inr (inl (fault, file, x, e))
of_texts asked (ReadFault file) status none x e = absurd (none file x)
of_texts asked NoMemory status none x e = inr (inr e)
of_texts asked _ status none x e = absurd x

of_refused : (refused : SourceError → Type 0) (a : Answer) (status : ℕ)
    → ((file : List ℕ) → refused (errors.ReadFault file) → ⊥) → FitsRefused refused a → status ≡ status_of a
    → ((fault : Fault) × (file : List ℕ) × refused (errors.Fault fault file) × (status ≡ 1)) ⊎ (status ≡ 6)
of_refused refused (Faulted file fault) status none x e = inl (fault, file, x, e)
of_refused refused (ReadFault file) status none x e = absurd (none file x)
of_refused refused NoMemory status none x e = inr e
of_refused refused _ status none x e = absurd x

of_source : {A : Type 0} (found : A → Answer) (well : A → Bool) → ((o : A) → status_of (found o) ≡ cond (well o) 0 3)
    → (asked : Result A SourceError → Type 0) (a : Answer) (status : ℕ)
    → ((file : List ℕ) → asked (Err (errors.ReadFault file)) → ⊥) → IsFoundBy found asked a → status ≡ status_of a
    → IsStatusOfSource asked well status
of_source found well is asked a status none (inl (o, x, same)) e = inl (o, x, e ∙ ap status_of same ∙ is o)
of_source found well is asked a status none (inr x) e = inr (of_refused (λ e. asked (Err e)) a status none x e)

of_asked : (m : Contents) (asked : Option Command) (old new : List ℕ → ℕ) (a : Answer) (status : ℕ) → Fits asked m old new a
    → NoneRose old new → status ≡ status_of a → IsStatus m old new asked status
of_asked m None old new a status x none e = of_usage m old new a status x e
of_asked m (Some (Compile root base)) old new a status x none e = of_root m root base old new a status x none e
of_asked m (Some (Check cdl policy cert)) old new a status x none e = search (rules, of_texts, check_rose)
of_asked m (Some (ListOf root)) old new a status x none e = search (rules, of_source, listed_by)
of_asked m (Some (Explain root from authority to)) old new a status x none e = search (rules, of_source, explained_by)
of_asked m (Some (Replay cdl policy steps)) old new a status x none e =
    of_texts (IsRun m old new cdl policy steps) a status (λ file h. none file (run_rose m old new file cdl policy steps h)) x e
of_asked m (Some (Generate count)) old new a status x none e = search (rules, of_source, generated_by)
of_asked m (Some (Audit cdl policy)) old new a status x none e =
    of_texts (IsAudited m old new cdl policy) a status (λ file h. none file (audit_rose m old new file cdl policy h)) x e
of_asked m (Some (Certify cdl policy)) old new a status x none e =
    of_texts (IsCertified m old new cdl policy) a status (λ file h. none file (certify_rose m old new file cdl policy h)) x e
of_asked m (Some (Plan cdl untypeds)) old new a status x none e =
    of_texts (IsPlanned m old new cdl untypeds) a status (λ file h. none file (plan_rose m old new file cdl untypeds h)) x e
of_asked m (Some (Sections elf)) old new a status x none e =
    of_texts (IsTabled m old new elf) a status (λ file h. none file (table_rose m old new file elf h)) x e

pub exact_status : (m : Contents) (asked : Option Command) (old new : List ℕ → ℕ) (answer : Answer) (status : ℕ)
    (sink left : Sink) (before now : ℕ)
    → Fits asked m old new answer → Tells answer status sink left before now → NoneRose old new → ¬ Rose before now
    → IsStatus m old new asked status
exact_status m asked old new answer status sink left before now fits tells none kept = search (rules, of_asked)

pub sound_or_faulty : (m : Contents) (root : List ℕ) → HasNoFault m root → ¬ HasFault m root
sound_or_faulty m root sound fault = search (rules, none_first)

-- ---- the usage line

not_two : (b : Bool) → ◌≡◌ {A = ℕ} 2 (cond b 0 3) → ⊥
not_two true e = cc
not_two false e = cc

-- status 2 is the usage line's
is_usage : (a : Answer) → 2 ≡ status_of a → a ≡ Usage
is_usage Usage e = refl
is_usage (Told outcome) e = absurd (not_two (is_well outcome) e)
is_usage (Explained o) e = absurd (not_two (is_assigned o) e)
is_usage _ e = absurd cc

unread : (m : Contents) (asked : Option Command) (old new : List ℕ → ℕ) → Fits asked m old new Usage → asked ≡ None
unread m None old new x = refl
unread m (Some (Compile root base)) old new x = absurd x
unread m _ old new x = absurd x

not_five : ◌≡◌ {A = ℕ} 2 5 → ⊥
not_five e = omega arith

pub usage_alone : (m : Contents) (asked : Option Command) (old new : List ℕ → ℕ) (answer : Answer) (sink left : Sink)
    (before now : ℕ)
    → Fits asked m old new answer → Tells answer 2 sink left before now → asked ≡ None
usage_alone m asked old new answer sink left before now fits tells = search (rules, unread, is_usage, not_five)

-- ---- no two reasons stand together

module _ (first second : ℕ) where
  abbrev AreOneStatus : Type 0
  AreOneStatus = (first ≡ second) ⊎ ((first ≡ 6) ⊎ (second ≡ 6))

  usage_one : (first ≡ 2) ⊎ (first ≡ 6) → (second ≡ 2) ⊎ (second ≡ 6) → AreOneStatus
  usage_one (inl e) (inl d) = inl (e ∙ sym d)
  usage_one (inl e) (inr six) = inr (inr six)
  usage_one (inr six) y = inr (inl six)

  root_one : (m : Contents) (root : List ℕ) → IsStatusOf m root first → IsStatusOf m root second → AreOneStatus
  root_one m root (inl (e, sound)) (inl (d, clean)) = inl (e ∙ sym d)
  root_one m root (inl (e, sound)) (inr (inl (d, faulty))) = absurd (sound_or_faulty m root sound faulty)
  root_one m root (inr (inl (e, faulty))) (inl (d, sound)) = absurd (sound_or_faulty m root sound faulty)
  root_one m root (inr (inl (e, faulty))) (inr (inl (d, also))) = inl (e ∙ sym d)
  root_one m root (inr (inr six)) y = inr (inl six)
  root_one m root _ (inr (inr six)) = inr (inr six)

  texts_one : (Here There : Result Outcome InputError → Type 0) → AreOneButChoice Here There → IsStatusOfTexts Here first
      → IsStatusOfTexts There second → AreOneStatus
  texts_one Here There one (inl (o, h, e)) (inl (p, k, d)) =
      let same = one (Ok o) (Ok p) tt tt h k in
      let found : but_choice o ≡ but_choice p = cc in
      inl (e ∙ ap (λ z. cond z 0 3) (well_one o p found) ∙ sym d)
  texts_one Here There one (inl (o, h, e)) (inr (inl (fault, file, k, d))) = let same =
      one (Ok o) (Err (errors.Fault fault file)) tt tt h k in absurd cc
  texts_one Here There one (inr (inl (fault, file, h, e))) (inl (p, k, d)) = let same =
      one (Err (errors.Fault fault file)) (Ok p) tt tt h k in absurd cc
  texts_one Here There one (inr (inl (fault, file, h, e))) (inr (inl (other, name, k, d))) = inl (e ∙ sym d)
  texts_one Here There one (inr (inr six)) y = inr (inl six)
  texts_one Here There one _ (inr (inr six)) = inr (inr six)

  source_one : {A : Type 0} (well : A → Bool) (Here There : Result A SourceError → Type 0) → AreOneOf Here There
      → IsStatusOfSource Here well first → IsStatusOfSource There well second → AreOneStatus
  source_one {A = A} well Here There one (inl (f, h, e)) (inl (g, k, d)) =
      let same = one (Ok f) (Ok g) refl refl h k in
      let found : f ≡ g = cc in
      inl (e ∙ ap (λ (z : A). cond (well z) 0 3) found ∙ sym d)
  source_one well Here There one (inl (f, h, e)) (inr (inl (fault, file, k, d))) = let same =
      one (Ok f) (Err (errors.Fault fault file)) refl refl h k in absurd cc
  source_one well Here There one (inl (f, h, e)) (inr (inr six)) = inr (inr six)
  source_one well Here There one (inr (inl (fault, file, h, e))) (inl (g, k, d)) = let same =
      one (Err (errors.Fault fault file)) (Ok g) refl refl h k in absurd cc
  source_one well Here There one (inr (inl (fault, file, h, e))) (inr (inl (other, name, k, d))) = inl (e ∙ sym d)
  source_one well Here There one (inr (inl (fault, file, h, e))) (inr (inr six)) = inr (inr six)
  source_one well Here There one (inr (inr six)) y = inr (inl six)

  asked_one : (m : Contents) (asked : Option Command) (old new later last : List ℕ → ℕ) → IsStatus m old new asked first
      → IsStatus m later last asked second → AreOneStatus
  asked_one m None old new later last x y = usage_one x y
  asked_one m (Some (Compile root base)) old new later last x y = root_one m root x y
  asked_one m (Some (Check cdl policy cert)) old new later last x y = search (rules, texts_one, but_choice_one, checked_one)
  asked_one m (Some (ListOf root)) old new later last x y = search (rules, source_one, one_listing)
  asked_one m (Some (Explain root from authority to)) old new later last x y = search (rules, source_one, one_explained)
  asked_one m (Some (Replay cdl policy steps)) old new later last x y = search (rules, texts_one, but_choice_one, ran_one)
  asked_one m (Some (Generate count)) old new later last x y =
      source_one (λ summary. true) (IsGenerated count) (IsGenerated count) (one_generated count) x y
  asked_one m (Some (Audit cdl policy)) old new later last x y = search (rules, texts_one, audited_one)
  asked_one m (Some (Certify cdl policy)) old new later last x y = search (rules, texts_one, but_choice_one, certified_one)
  asked_one m (Some (Sections elf)) old new later last x y = search (rules, texts_one, but_choice_one, tabled_one)
  asked_one m (Some (Plan cdl untypeds)) old new later last x y = search (rules, texts_one, planned_one)

pub one_status : (m : Contents) (asked : Option Command) (old new later last : List ℕ → ℕ) (first second : ℕ)
    → IsStatus m old new asked first → IsStatus m later last asked second
    → (first ≡ second) ⊎ ((first ≡ 6) ⊎ (second ≡ 6))
one_status m asked old new later last first second x y = asked_one first second m asked old new later last x y
