-- In given contents there is one answer, aside from failed reads and want of memory.
use Rattle.front_end.proofs.Common.{Bool, SourceError, Contents, Err, Fault, FrontEnd, IsAssigned, IsFaulted, IsFront, IsFrontOf, IsLoaded, IsMeaning, IsMeaningOf, IsMeant, List, Meaning, None, Ok, Option, Policy, Result, Some, Source, ap}
use Rattle.front_end.proofs.Common.{false, first_front_fault, first_list_fault, flat_of, has, inl, inr, label_numbers, name_of_file, refl, settled_of, subst, sym, true, true≢false, yields, ℕ, ◌↔◌, ◌∙◌, ◌≡◌}
use Rattle.adl_import.proofs.Unique.{loaded_one}
use Rattle.cap_model.proofs.TableMembers.{one_table}
use Rattle.cam_base.specs.declared.error.Unread.TheVariants as error

-- ---- sources and faults

pub one_loaded : (m : Contents) (root : List ℕ) (s t : Source) → IsLoaded m root (Ok s) → IsLoaded m root (Ok t) → s ≡ t
one_loaded m root s t a b =
    let same : ◌≡◌ {A = Result Source SourceError} (Ok s) (Ok t) = loaded_one m root (Ok s) (Ok t) refl refl a b in
    cc

module _ (first : Source → Option Fault) (m : Contents) (root : List ℕ) where
  -- no fault stands in a source that is loaded and has none
  pub none_faulted : (s : Source) (fault : Fault) (file : List ℕ) → IsLoaded m root (Ok s) → first s ≡ None
      → IsFaulted first root m fault file → ⊥
  none_faulted s fault file loaded none (inl x) =
      let same : ◌≡◌ {A = Result Source SourceError} (Ok s) (Err (error.Fault fault file)) =
      loaded_one m root (Ok s) (Err (error.Fault fault file)) refl refl loaded x in
      cc
  none_faulted s fault file loaded none (inr x) =
      let same : ◌≡◌ {A = Option Fault} None (Some fault) = sym none ∙ ap first (one_loaded m root s x.0 loaded x.1) ∙ x.2 in
      cc

  pub one_fault : (f g : Fault) (a b : List ℕ) → IsFaulted first root m f a → IsFaulted first root m g b → (f ≡ g) × (a ≡ b)
  one_fault f g a b (inl x) (inl y) =
      let same : ◌≡◌ {A = Result Source SourceError} (Err (error.Fault f a)) (Err (error.Fault g b)) =
      loaded_one m root (Err (error.Fault f a)) (Err (error.Fault g b)) refl refl x y in
      (cc, cc)
  one_fault f g a b (inl x) (inr y) =
      let same : ◌≡◌ {A = Result Source SourceError} (Err (error.Fault f a)) (Ok y.0) =
      loaded_one m root (Err (error.Fault f a)) (Ok y.0) refl refl x y.1 in
      absurd cc
  one_fault f g a b (inr x) (inl y) =
      let same : ◌≡◌ {A = Result Source SourceError} (Ok x.0) (Err (error.Fault g b)) =
      loaded_one m root (Ok x.0) (Err (error.Fault g b)) refl refl x.1 y in
      absurd cc
  one_fault f g a b (inr x) (inr y) =
      let source = one_loaded m root x.0 y.0 x.1 y.1 in
      let fault : ◌≡◌ {A = Option Fault} (Some f) (Some g) = sym x.2 ∙ ap first source ∙ y.2 in
      let same : f ≡ g = cc in (
        same,
        x.3 ∙ ap (λ (z : Source). name_of_file z f.place.file) source ∙ ap (λ (z : Fault). name_of_file y.0 z.place.file)
            same ∙ sym y.3,
      )

-- ---- answers

meaning_from : Source → Meaning
meaning_from s = record { source = s; flat = flat_of s; settled = settled_of s }

is_meaning_from : (m : Meaning) → IsMeant m.source m.flat m.settled → m ≡ meaning_from m.source
unfolding meaning_from
is_meaning_from m meant =
    ap (λ z. let g : Meaning = record { source = m.source; flat = z; settled = m.settled } in g) meant.is_flat
    ∙ ap (λ z. let g : Meaning = record { source = m.source; flat = flat_of m.source; settled = z } in g) meant.is_settled

pub meanings_same : (m : Contents) (root : List ℕ) (f g : Meaning) → IsMeaningOf root m f → IsMeaningOf root m g → f ≡ g
meanings_same m root f g x y = is_meaning_from f x.meant ∙ ap meaning_from (one_loaded m root f.source g.source x.loaded y.loaded)
    ∙ sym (is_meaning_from g y.meant)

-- tests that answer one question are equal
pub both : (a b : Bool) {P : Type 0} → (a ≡ true) ↔ P → (b ≡ true) ↔ P → a ≡ b
both true true x y = refl
both false false x y = refl
both true false x y = absurd (true≢false (sym (y.1 (x.0 refl))))
both false true x y = absurd (true≢false (sym (x.1 (y.0 refl))))

-- what is assigned is one
pub policies_same : (s : Source) (p q : Policy) → IsAssigned s p → IsAssigned s q → p ≡ q
policies_same s p q a b =
    let edges : p.edges ≡ q.edges = one_table p.edges q.edges a.sorted b.sorted
    (λ e. both (has p.edges e) (has q.edges e) (a.edges e) (b.edges e)) in
    ap (λ z. let r : Policy = record { labels = z; objects = p.objects; edges = p.edges } in r) (a.labels ∙ sym b.labels)
    ∙ ap (λ z. let r : Policy = record { labels = q.labels; objects = z; edges = p.edges } in r) (a.objects ∙ sym b.objects)
    ∙ ap (λ z. let r : Policy = record { labels = q.labels; objects = q.objects; edges = z } in r) edges

front_from : Source → Policy → FrontEnd
front_from s p = record { source = s; flat = flat_of s; settled = settled_of s; policy = p; numbers = label_numbers (flat_of s) }

is_front_from : (f : FrontEnd) → IsMeant f.source f.flat f.settled → f.numbers ≡ label_numbers f.flat
    → f ≡ front_from f.source f.policy
unfolding front_from
is_front_from f meant numbered =
    ap (λ z. let g : FrontEnd = record {
      source = f.source;
      flat = f.flat;
      settled = f.settled;
      policy = f.policy;
      numbers = z;
    } in g) numbered
    ∙ ap (λ z. let g : FrontEnd = record {
      source = f.source;
      flat = z;
      settled = f.settled;
      policy = f.policy;
      numbers = label_numbers z;
    } in g) meant.is_flat
    ∙ ap (λ z. let g : FrontEnd = record {
      source = f.source;
      flat = flat_of f.source;
      settled = z;
      policy = f.policy;
      numbers = label_numbers (flat_of f.source);
    } in g) meant.is_settled

pub faults_same : {T : Type 0} (f g : Fault) (a b : List ℕ) → (f ≡ g) × (a ≡ b)
    → ◌≡◌ {A = Result T SourceError} (Err (error.Fault f a)) (Err (error.Fault g b))
faults_same f g a b e = ap (λ z. Err (error.Fault z a)) e.0 ∙ ap (λ z. Err (error.Fault g z)) e.1

pub one_meaning : (m : Contents) (root : List ℕ) (old new later last : List ℕ → ℕ) (a b : Result Meaning SourceError)
    → yields a ≡ false → yields b ≡ false
    → IsMeaning root m old new a → IsMeaning root m later last b → a ≡ b
one_meaning m root old new later last (Ok f) (Ok g) p q x y = ap Ok (meanings_same m root f g x y)
one_meaning m root old new later last (Ok f) (Err (error.Fault g b)) p q x y =
    absurd (none_faulted first_front_fault m root f.source g b x.loaded x.none y)
one_meaning m root old new later last (Err (error.Fault f a)) (Ok g) p q x y =
    absurd (none_faulted first_front_fault m root g.source f a y.loaded y.none x)
one_meaning m root old new later last (Err (error.Fault f a)) (Err (error.Fault g b)) p q x y =
    faults_same f g a b (one_fault first_front_fault m root f g a b x y)
one_meaning m root old new later last (Err (error.ReadFault a)) b p q x y = cc
one_meaning m root old new later last (Err error.NoMemory) b p q x y = cc
one_meaning m root old new later last (Ok f) (Err (error.ReadFault b)) p q x y = cc
one_meaning m root old new later last (Ok f) (Err error.NoMemory) p q x y = cc
one_meaning m root old new later last (Err (error.Fault f a)) (Err (error.ReadFault b)) p q x y = cc
one_meaning m root old new later last (Err (error.Fault f a)) (Err error.NoMemory) p q x y = cc

-- fronts of one root are one
pub front_one : (m : Contents) (root : List ℕ) (f g : FrontEnd) → IsFrontOf root m f → IsFrontOf root m g → f ≡ g
front_one m root f g x y =
    let same : f.source ≡ g.source = one_loaded m root f.source g.source x.loaded y.loaded in
    let policy : f.policy ≡ g.policy =
    policies_same g.source f.policy g.policy (subst (λ z. IsAssigned z f.policy) same x.assigned) y.assigned in
    is_front_from f x.meant x.numbered ∙ ap (λ z. front_from z f.policy) same ∙ ap (front_from g.source) policy
    ∙ sym (is_front_from g y.meant y.numbered)

pub one_front : (m : Contents) (root : List ℕ) (old new later last : List ℕ → ℕ) (a b : Result FrontEnd SourceError)
    → yields a ≡ false → yields b ≡ false
    → IsFront root m old new a → IsFront root m later last b → a ≡ b
one_front m root old new later last (Ok f) (Ok g) p q x y = ap Ok (front_one m root f g x y)
one_front m root old new later last (Ok f) (Err (error.Fault g b)) p q x y =
    absurd (none_faulted first_list_fault m root f.source g b x.loaded x.none y)
one_front m root old new later last (Err (error.Fault f a)) (Ok g) p q x y =
    absurd (none_faulted first_list_fault m root g.source f a y.loaded y.none x)
one_front m root old new later last (Err (error.Fault f a)) (Err (error.Fault g b)) p q x y =
    faults_same f g a b (one_fault first_list_fault m root f g a b x y)
one_front m root old new later last (Err (error.ReadFault a)) b p q x y = cc
one_front m root old new later last (Err error.NoMemory) b p q x y = cc
one_front m root old new later last (Ok f) (Err (error.ReadFault b)) p q x y = cc
one_front m root old new later last (Ok f) (Err error.NoMemory) p q x y = cc
one_front m root old new later last (Err (error.Fault f a)) (Err (error.ReadFault b)) p q x y = cc
one_front m root old new later last (Err (error.Fault f a)) (Err error.NoMemory) p q x y = cc
