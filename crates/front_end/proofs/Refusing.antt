-- What the parts answer is what the whole answers.
use Rattle.front_end.proofs.Common.{Assigns, SourceError, Contents, Err, Fault, Flat, FrontEnd, HasMeaning, IsAssigned, IsFaulted, IsFront, IsFrontOf, IsLoaded, IsMeaning, IsMeaningOf, IsMeant, IsRefused, IsSorted, List, Meaning, Means}
use Rattle.front_end.proofs.Common.{None, Ok, Option, Policy, Refused, Refuses, Result, Settled, Some, Source, Tells, [], ap, first_front_fault, first_list_fault, flat_of, inl, inr, label_lines, label_numbers, name_of_file, no_first}
use Rattle.front_end.proofs.Common.{option_or, refl, settled_of, source_tables, subst, sym, ℕ, ◌∙◌, ◌≡◌}
use Rattle.cam_base.specs.declared.error.Refused.TheVariants as refused
use Rattle.cam_io.specs.Causes.{Rose}
use Rattle.adl_meaning.specs.Faults.{Refuses as RefusesAs}
use Rattle.arch_policy.specs.Policies.{IsPolicyOf, first_edge_fault}
use Rattle.arch_policy.specs.Tables.{Tables, tables_of}
use Rattle.arch_policy.specs.declared.policy.Assigned.{Assigned}
use Rattle.cam_base.specs.declared.error.Unread.TheVariants as error
use Rattle.front_end.proofs.LoadedWhole.{loaded_whole}

pub second_is : {X : Type 0} (a b o : Option X) → a ≡ None → b ≡ o → option_or a b ≡ o
second_is a b o e f = ap (λ z. option_or z b) e ∙ f

-- ---- faults that are told

pub told_refuses : (first : Source → Option Fault) (root : List ℕ) (contents : Contents) (before now : List ℕ → ℕ) (s : Source)
    (e : SourceError) → IsLoaded contents root (Ok s) → Tells s (first s) e → Refuses first root contents before now e
told_refuses first root contents before now s (error.Fault fault file) loaded t = inr (s, loaded, t.0, t.1.1)
told_refuses first root contents before now s (error.ReadFault file) loaded t = absurd t
told_refuses first root contents before now s error.NoMemory loaded t = tt

-- a source that isn't loaded is refused
pub unloaded_refuses : (first : Source → Option Fault) (root : List ℕ) (contents : Contents) (before now : List ℕ
    → ℕ) (e : SourceError) → IsLoaded contents root (Err e)
    → ((file : List ℕ) → ◌≡◌ {A = Result Source SourceError} (Err e) (Err (error.ReadFault file)) → Rose (before file) (now file))
    → Refuses first root contents before now e
unloaded_refuses first root contents before now (error.Fault fault file) loaded rose = inl loaded
unloaded_refuses first root contents before now (error.ReadFault file) loaded rose = (loaded, rose file refl)
unloaded_refuses first root contents before now error.NoMemory loaded rose = tt

-- a fault up to the settings comes before the limit on edges
faulted_lists : (root : List ℕ) (contents : Contents) (fault : Fault) (file : List ℕ)
    → IsFaulted first_front_fault root contents fault file → IsFaulted first_list_fault root contents fault file
faulted_lists root contents fault file (inl x) = inl x
faulted_lists root contents fault file (inr x) =
    inr (x.0, x.1, ap (λ o. option_or o (first_edge_fault (source_tables x.0))) x.2, x.3)

pub meaning_lists : (root : List ℕ) (contents : Contents) (before now : List ℕ → ℕ) (e : SourceError)
    → Refuses first_front_fault root contents before now e → Refuses first_list_fault root contents before now e
meaning_lists root contents before now (error.Fault fault file) h = faulted_lists root contents fault file h
meaning_lists root contents before now (error.ReadFault file) h = h
meaning_lists root contents before now error.NoMemory h = tt

-- a refusal in the file of its fault tells the first fault
pub refused_tells : (T : Type 0) (s : Source) (first : Option Fault) (r : Refused Fault) (e : SourceError)
    → RefusesAs {T = T} (Err r) first → IsRefused s r e → Tells s first e
refused_tells T s first (refused.Fault g) (error.Fault fault file) h n =
    (h ∙ ap (λ z. Some z) (sym n.0), (refl, n.1 ∙ ap (λ (z : Fault). name_of_file s z.place.file) (sym n.0)))
refused_tells T s first (refused.Fault g) (error.ReadFault file) h n = absurd n
refused_tells T s first (refused.Fault g) error.NoMemory h n = tt
refused_tells T s first refused.NoMemory e h n = subst (λ z. Tells s first z) (sym n) tt

-- ---- what is meant

pub meant_meaning : (root : List ℕ) (contents : Contents) (before now : List ℕ → ℕ) (s : Source) (r : Result Meaning SourceError)
    → IsLoaded contents root (Ok s) → Means s r → IsMeaning root contents before now r
meant_meaning root contents before now s (Ok m) loaded h = record {
  loaded = subst (λ z. IsLoaded contents root (Ok z)) (sym h.0) loaded;
  none = ap first_front_fault h.0 ∙ h.1;
  meant = h.2;
}
meant_meaning root contents before now s (Err e) loaded h = told_refuses first_front_fault root contents before now s e loaded h

pub meaning_sound : (root : List ℕ) (contents : Contents) (m : Meaning) → IsMeaningOf root contents m
    → HasMeaning m.source m.flat m.settled
meaning_sound root contents m is = record {
  whole = loaded_whole contents root m.source is.loaded;
  none = is.none;
  meant = is.meant;
}

-- ---- what is assigned

pub tables_are : (s : Source) (flat : Flat) (settled : Settled) → IsMeant s flat settled
    → tables_of s flat settled ≡ source_tables s
tables_are s flat settled meant = ap (λ z. tables_of s z settled) meant.is_flat ∙ ap (λ z. tables_of s (flat_of s) z)
    meant.is_settled

pub policy_assigned : (m : Meaning) (p : Policy) → IsMeant m.source m.flat m.settled → p.labels ≡ label_lines m.flat
    → p.objects ≡ [] → IsPolicyOf (tables_of m.source m.flat m.settled) p.edges → IsSorted p.edges → IsAssigned m.source p
policy_assigned m p meant labels objects edges sorted = record {
  labels = labels ∙ ap label_lines meant.is_flat;
  objects = objects;
  edges = subst (λ (t : Tables). IsPolicyOf t p.edges) (tables_are m.source m.flat m.settled meant) edges;
  sorted = sorted;
}

pub no_edge_fault : (m : Meaning) → IsMeant m.source m.flat m.settled
    → first_edge_fault (tables_of m.source m.flat m.settled) ≡ None → first_edge_fault (source_tables m.source) ≡ None
no_edge_fault m meant none = sym (ap first_edge_fault (tables_are m.source m.flat m.settled meant)) ∙ none

pub policy_refuses : (m : Meaning) (r : Refused Fault) (e : SourceError) → IsMeant m.source m.flat m.settled
    → RefusesAs {T = Assigned} (Err r) (first_edge_fault (tables_of m.source m.flat m.settled)) → IsRefused m.source r e
    → Assigns m (Err e)
policy_refuses m r e meant h n =
    refused_tells Assigned m.source (first_edge_fault (source_tables m.source)) r e
    (subst (λ t. RefusesAs {T = Assigned} (Err r) (first_edge_fault t)) (tables_are m.source m.flat m.settled meant) h) n

list_tells : (s : Source) (e : SourceError) → first_front_fault s ≡ None → Tells s (first_edge_fault (source_tables s)) e
    → Tells s (first_list_fault s) e
list_tells s (error.Fault fault file) none t =
    (second_is (first_front_fault s) (first_edge_fault (source_tables s)) (Some fault) none t.0, t.1)
list_tells s (error.ReadFault file) none t = absurd t
list_tells s error.NoMemory none t = tt

front_meant : (m : Meaning) (f : FrontEnd) → f.source ≡ m.source → f.flat ≡ m.flat → f.settled ≡ m.settled
    → IsMeant m.source m.flat m.settled → IsMeant f.source f.flat f.settled
front_meant m f source flat settled meant = record {
  is_flat = flat ∙ meant.is_flat ∙ ap flat_of (sym source);
  is_settled = settled ∙ meant.is_settled ∙ ap settled_of (sym source);
}

pub assigned_front : (root : List ℕ) (contents : Contents) (before now : List ℕ → ℕ) (m : Meaning)
    (r : Result FrontEnd SourceError) → IsMeaningOf root contents m → Assigns m r → IsFront root contents before now r
assigned_front root contents before now m (Ok f) is a = record {
  loaded = subst (λ z. IsLoaded contents root (Ok z)) (sym a.0) is.loaded;
  none = ap first_list_fault a.0 ∙ second_is (first_front_fault m.source) (first_edge_fault (source_tables m.source))
      None is.none a.3;
  meant = front_meant m f a.0 a.1 a.2 is.meant;
  assigned = subst (λ z. IsAssigned z f.policy) (sym a.0) a.4;
  numbered = a.5 ∙ ap label_numbers (sym a.1);
}
assigned_front root contents before now m (Err e) is a = told_refuses first_list_fault root contents before now m.source e
    is.loaded (list_tells m.source e is.none a)

pub front_sound : (root : List ℕ) (contents : Contents) (f : FrontEnd) → IsFrontOf root contents f
    → HasMeaning f.source f.flat f.settled
front_sound root contents f is = record {
  whole = loaded_whole contents root f.source is.loaded;
  none = no_first (first_front_fault f.source) (first_edge_fault (source_tables f.source)) is.none;
  meant = is.meant;
}
