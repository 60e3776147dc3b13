-- For the same words and contents there is one answer, aside from failed reads and want of memory.
use Rattle.camkes_tool.proofs.Common.{Answer, AreNamedBy, AreOne, AreOneButChoice, Audit, Build, Certify, Check, Command, Compile, Compiled, Contents, Err, Explain, Explained, Faulted, Fits, FitsCompiled, FitsExplained, FitsGenerated, rules}
use Rattle.camkes_tool.proofs.Common.{FitsListed, FitsTexts, Generate, Generated, InputError, List, Listed, Listing, NoMemory, None, Ok, Option}
use Rattle.camkes_tool.proofs.Common.{Outcome, Plan, ReadFault, Refused, Replay, Result, Sections, Sink, Some, SourceError, Summary, Tells, TextNames, Told, Usage, [], after, answer_but_choice, ap, arith, audited_one, build_first}
use Rattle.camkes_tool.proofs.Common.{builds_same, but_choice, certified_one, checked_one, false, inl, inr, is_chosen, is_well, leaves_choice, one_explained, one_first, one_listing, planned_one}
use Rattle.camkes_tool.proofs.Common.{ran_one, refl, script, status_of, subst, sym, tabled_one, texts_script, ℕ, ◌∙◌, ◌∷◌, ◌≡◌, ◌≤◌, ◌⊎◌}
use Rattle.cam_base.specs.declared.place.Fault.{Fault}
use Rattle.command_words.specs.declared.command.Command.TheVariants.{List as ListOf}
use Rattle.cam_base.specs.Unread as errors
use Rattle.cam_base.specs.declared.error.Unread.TheVariants as unread
use Rattle.camkes_tool.proofs.OneGenerated.{one_generated}
use Rattle.explain.specs.declared.answer.Answer.{Answer as Reply}
use Rattle.text_commands.specs.OneAnswer as texts
use Rattle.text_commands.specs.declared.outcome.Outcome.TheVariants.{Audited, Certified, Checked, Ran, Tabled}
use Rattle.camkes_tool.specs.Answers.{FitsRefused, yields}

same_answer : (a : Answer) → AreOne a a
same_answer a = record { status = refl; script = λ is. refl; compiled = refl; faulted = refl; refused = refl; found = refl }

equal_answers : (a b : Answer) → a ≡ b → AreOne a b
equal_answers a b e = subst (λ z. AreOne a z) e (same_answer a)

module _ (m : Contents) (root base : List ℕ) (old new later last : List ℕ → ℕ) where
  names_same : (a b : TextNames) (c : Build) → AreNamedBy base a → AreNamedBy base b → texts_script a c ≡ texts_script b c
  names_same a b c x y = rw (x.capdl, x.policy, x.certificate, x.map, y.capdl, y.policy, y.certificate, y.map)

  compiled_same : (a b : TextNames) (c d : Build) → FitsCompiled root base m old new (Compiled a c)
      → FitsCompiled root base m later last (Compiled b d) → AreOne (Compiled a c) (Compiled b d)
  compiled_same a b c d x y =
      let same : c ≡ d = builds_same m root c d x.1 y.1 in
      search (rules, names_same)

  faulted_same : (a b : List ℕ) (f g : Fault) → FitsCompiled root base m old new (Faulted a f)
      → FitsCompiled root base m later last (Faulted b g) → AreOne (Faulted a f) (Faulted b g)
  faulted_same a b f g x y =
      let same = one_first m root f g a b x y in
      equal_answers (Faulted a f) (Faulted b g) (ap (λ z. Faulted a z) same.0 ∙ ap (λ z. Faulted z g) same.1)

  one_of_root : (a b : Answer) → yields a ≡ false → yields b ≡ false → FitsCompiled root base m old new a
      → FitsCompiled root base m later last b → AreOne a b
  one_of_root (Compiled a s) (Compiled b t) p q x y = compiled_same a b s t x y
  one_of_root (Compiled a s) (Faulted b g) p q x y = absurd (build_first m root s g b x.1 y)
  one_of_root (Faulted a f) (Compiled b t) p q x y = absurd (build_first m root t f a y.1 x)
  one_of_root (Faulted a f) (Faulted b g) p q x y = faulted_same a b f g x y
  one_of_root _ _ p q x y = absurd (search rules)

one_usage : (m : Contents) (old new later last : List ℕ → ℕ) (a b : Answer) → yields a ≡ false → yields b ≡ false
    → Fits None m old new a → Fits None m later last b → AreOne a b
one_usage m old new later last Usage Usage p q x y = same_answer Usage
one_usage m old new later last _ _ p q x y = absurd (search rules)

-- ---- commands over texts

-- where there is no choice, nothing is left out
all_there : (o : Outcome) → leaves_choice (but_choice o) ≡ false → but_choice o ≡ o
all_there (Checked verdict labels) e = refl
all_there (Ran replayed labels) e = refl
all_there (Tabled image) e = refl
all_there (Certified cert) e = refl
all_there _ e = absurd cc

choice_stays : (o : Outcome) → leaves_choice (but_choice o) ≡ leaves_choice o
choice_stays (Audited report spec labels) = refl
choice_stays _ = refl

well_stays : (o : Outcome) → is_well (but_choice o) ≡ is_well o
well_stays (Audited report spec labels) = refl
well_stays _ = refl

outcomes_same : (o p : Outcome) → but_choice o ≡ but_choice p → leaves_choice o ≡ false → o ≡ p
outcomes_same o p e none = search (rules, choice_stays, all_there)

pub well_one : (o p : Outcome) → but_choice o ≡ but_choice p → is_well o ≡ is_well p
well_one o p e = sym (well_stays o) ∙ ap is_well e ∙ well_stays p

told_same : (o p : Outcome) → but_choice o ≡ but_choice p → AreOne (Told o) (Told p)
told_same o p e = search (rules, well_one, outcomes_same)

one_of_texts : (Here There : Result Outcome InputError → Type 0) → AreOneButChoice Here There → (a b : Answer) → yields a ≡ false
    → yields b ≡ false → FitsTexts Here a → FitsTexts There b → AreOne a b
one_of_texts Here There one (Told o) (Told r) p q x y =
    let h = one (Ok o) (Ok r) tt tt x y in
    let same : but_choice o ≡ but_choice r = cc in
    told_same o r same
one_of_texts Here There one (Told o) (Refused b g) p q x y = let h = one (Ok o) (Err (unread.Fault g b)) tt tt x y in absurd cc
one_of_texts Here There one (Refused a f) (Told r) p q x y = let h = one (Err (unread.Fault f a)) (Ok r) tt tt x y in absurd cc
one_of_texts Here There one (Refused a f) (Refused b g) p q x y =
    let h = one (Err (unread.Fault f a)) (Err (unread.Fault g b)) tt tt x y in
    let same : Refused a f ≡ Refused b g = cc in
    equal_answers (Refused a f) (Refused b g) same
one_of_texts Here There one _ _ p q x y = absurd (search rules)

-- one answer is one but for a choice
pub but_choice_one : (Here There : Result Outcome InputError → Type 0) → texts.AreOne Here There → AreOneButChoice Here There
but_choice_one Here There one a b s t x y = ap answer_but_choice (one a b s t x y)

-- ---- commands over sources

-- the answer that a command over a source finds, or a fault
abbrev pub AreOneOf : {A : Type 0} → (Result A SourceError → Type 0) → (Result A SourceError → Type 0) → Type 0
AreOneOf {A} Here There = (a b : Result A SourceError) → errors.yields a ≡ false → errors.yields b ≡ false → Here a
    → There b → a ≡ b

-- what a command over a source found, or what came in its place
abbrev pub IsFoundBy : {A : Type 0} → (A → Answer) → (Result A SourceError → Type 0) → Answer → Type 0
IsFoundBy {A} found asked a = ((o : A) × asked (Ok o) × (a ≡ found o)) ⊎ FitsRefused (λ e. asked (Err e)) a

pub listed_by : (asked : Result Listing SourceError → Type 0) (a : Answer) → FitsListed asked a → IsFoundBy Listed asked a
listed_by asked (Listed o) x = inl (o, x, refl)
listed_by asked _ x = inr x

pub explained_by : (asked : Result Reply SourceError → Type 0) (a : Answer) → FitsExplained asked a
    → IsFoundBy Explained asked a
explained_by asked (Explained o) x = inl (o, x, refl)
explained_by asked _ x = inr x

pub generated_by : (asked : Result Summary SourceError → Type 0) (a : Answer) → FitsGenerated asked a
    → IsFoundBy Generated asked a
generated_by asked (Generated o) x = inl (o, x, refl)
generated_by asked _ x = inr x

module _ {A : Type 0} (Here There : Result A SourceError → Type 0) (one : AreOneOf Here There) where
  not_both : (o : A) (b : Answer) → yields b ≡ false → Here (Ok o) → FitsRefused (λ e. There (Err e)) b → ⊥
  not_both o (Faulted b g) q x y = let h = one (Ok o) (Err (unread.Fault g b)) refl refl x y in cc
  not_both o _ q x y = search rules

  refused_same : (a b : Answer) → yields a ≡ false → yields b ≡ false → FitsRefused (λ e. Here (Err e)) a
      → FitsRefused (λ e. There (Err e)) b → a ≡ b
  refused_same (Faulted a f) (Faulted b g) p q x y =
      let h = one (Err (unread.Fault f a)) (Err (unread.Fault g b)) refl refl x y in cc
  refused_same _ _ p q x y = absurd (search rules)

one_of_source : {A : Type 0} (found : A → Answer) (Here There : Result A SourceError → Type 0) → AreOneOf Here There
    → (a b : Answer) → yields a ≡ false → yields b ≡ false → IsFoundBy found Here a → IsFoundBy found There b → AreOne a b
one_of_source found Here There one a b p q (inl (o, x, is)) (inl (r, y, be)) =
    let h = one (Ok o) (Ok r) refl refl x y in
    let same : o ≡ r = cc in
    equal_answers a b (is ∙ ap found same ∙ sym be)
one_of_source found Here There one a b p q (inl (o, x, is)) (inr y) = absurd (not_both Here There one o b q x y)
one_of_source found Here There one a b p q (inr x) (inl (r, y, be)) =
    absurd (not_both There Here (λ c d s t h k. sym (one d c t s k h)) r a p y x)
one_of_source found Here There one a b p q (inr x) (inr y) = equal_answers a b (refused_same Here There one a b p q x y)

-- ---- every command

pub one_asked : (m : Contents) (asked : Option Command) (old new later last : List ℕ → ℕ) (a b : Answer) → yields a ≡ false
    → yields b ≡ false → Fits asked m old new a → Fits asked m later last b → AreOne a b
one_asked m None old new later last a b p q x y = one_usage m old new later last a b p q x y
one_asked m (Some (Compile root base)) old new later last a b p q x y = one_of_root m root base old new later last a b p q x y
one_asked m (Some (Check cdl policy cert)) old new later last a b p q x y =
    search (rules, one_of_texts, but_choice_one, checked_one)
one_asked m (Some (ListOf root)) old new later last a b p q x y = search (rules, one_of_source, one_listing, listed_by)
one_asked m (Some (Explain root from authority to)) old new later last a b p q x y =
    search (rules, one_of_source, one_explained, explained_by)
one_asked m (Some (Replay cdl policy steps)) old new later last a b p q x y =
    search (rules, one_of_texts, but_choice_one, ran_one)
one_asked m (Some (Generate count)) old new later last a b p q x y = search (rules, one_of_source, one_generated, generated_by)
one_asked m (Some (Sections elf)) old new later last a b p q x y = search (rules, one_of_texts, but_choice_one, tabled_one)
one_asked m (Some (Audit cdl policy)) old new later last a b p q x y = search (rules, one_of_texts, audited_one)
one_asked m (Some (Certify cdl policy)) old new later last a b p q x y =
    search (rules, one_of_texts, but_choice_one, certified_one)
one_asked m (Some (Plan cdl untypeds)) old new later last a b p q x y = search (rules, one_of_texts, planned_one)

-- ---- calls

-- what is told with a status up to 3 is told whole, and doesn't yield
pub record IsWhole (a : Answer) (n : ℕ) (old new : Sink) : Type 0 where
  pub stays : yields a ≡ false
  pub status : n ≡ status_of a
  pub done : new ≡ after old (script a)

stays : (a : Answer) → status_of a ≤ 3 → yields a ≡ false
stays (ReadFault a) l = absurd (omega arith)
stays NoMemory l = absurd (omega arith)
stays _ l = refl

whole : (a : Answer) (status : ℕ) (old new : Sink) (before now : ℕ) → Tells a status old new before now → status ≤ 3
    → IsWhole a status old new
whole a status old new before now tells l = search (rules, stays)

pub one_call : (m : Contents) (asked : Option Command) (old new later last : List ℕ → ℕ) (a b : Answer) (first second : ℕ)
    (sink left right : Sink) (before now before' now' : ℕ)
    → Fits asked m old new a → Tells a first sink left before now → first ≤ 3 → Fits asked m later last b
    → Tells b second sink right before' now' → second ≤ 3
    → (first ≡ second) × (is_chosen a ≡ false → left ≡ right)
one_call m asked old new later last a b first second sink left right before now before' now' x t l y u k =
    search (rules, whole, one_asked)
