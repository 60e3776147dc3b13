-- What the parts of a compilation answer is what the whole answers.
use Rattle.arch_compile.proofs.Common.{AreImagesOf, AreImagesRead, AreNumbered, Assigns, Build, SourceError, Builds, Completes, Contents, Err, Fault, Finishes, Flat, Found, HasMeaning, IfOk, Images, IsAssigned, IsBuildOf, IsBuiltOf, IsCompiled}
use Rattle.arch_compile.proofs.Common.{IsImaged, IsLaid, IsMade, IsMeaningOf, IsMeant, IsRefusal, IsRefused, Layout, Lays, List, None, NoneFell, Ok, Option, Refuses, Result, Rose, Settled, Some, Source, Tells, ap, file_of, first_edge_fault}
use Rattle.arch_compile.proofs.Common.{first_fault, first_front_fault, first_imaged_fault, first_laid_fault, first_layout_fault, first_page_limit, first_slot_fault, first_space_fault, first_table_fault, flat_of, found_beside, found_count, found_of}
use Rattle.arch_compile.proofs.Common.{given, if◌then◌else◌, images_beside, images_from, images_numbered, images_sound, inl, inr, is_some, label_numbers, name_of_file, option_or, refl, refused_tells, root_of, rose_after, second_is}
use Rattle.arch_compile.proofs.Common.{slice_get, source_tables, spaced, subst, sym, table_names, tables_beside, types, ℕ, ◌∙◌, ◌≡◌}
use Rattle.adl_meaning.specs.Faults.{Refuses as RefusesAs}
use Rattle.cam_base.specs.declared.error.Refused.{Refused}
use Rattle.cam_base.specs.declared.error.Unread.TheVariants as error
use Rattle.front_end.specs.declared.phases.FrontEnd.{FrontEnd}
use Rattle.front_end.specs.declared.phases.Meaning.{Meaning}
use Rattle.cspace_layout.specs.Within.{IsWithin}
use Rattle.source_images.specs.TableFaults.{name_of_file as name_with_tables}

-- ---- of a front

-- what is so of a meaning is so of its front
carried : (P : Source → Flat → Settled → Type 0) (m : Meaning) (f : FrontEnd) → Assigns m (Ok f) → P m.source m.flat m.settled
    → P f.source f.flat f.settled
carried P m f a p =
    subst (λ z. P z f.flat f.settled) (sym a.0) (subst (λ z. P m.source z f.settled) (sym a.1)
    (subst (λ z. P m.source m.flat z) (sym a.2) p))

pub front_sound : (m : Meaning) (f : FrontEnd) → Assigns m (Ok f) → HasMeaning m.source m.flat m.settled
    → HasMeaning f.source f.flat f.settled
front_sound m f a sound = carried HasMeaning m f a sound

pub front_assigned : (m : Meaning) (f : FrontEnd) → Assigns m (Ok f) → IsAssigned f.source f.policy
front_assigned m f a = subst (λ z. IsAssigned z f.policy) (sym a.0) a.4

pub front_numbered : (m : Meaning) (f : FrontEnd) → Assigns m (Ok f) → f.numbers ≡ label_numbers f.flat
front_numbered m f a = a.5 ∙ ap label_numbers (sym a.1)

pub front_laid : (m : Meaning) (f : FrontEnd) (images : Images) (l : Layout) → Assigns m (Ok f)
    → IsLaid m.source m.flat m.settled images l → IsLaid f.source f.flat f.settled images l
front_laid m f images l a laid = carried (λ s flat settled. IsLaid s flat settled images l) m f a laid

meaning_is : (m : Meaning) (f : FrontEnd) → Assigns m (Ok f)
    → (let n : Meaning = record { source = f.source; flat = f.flat; settled = f.settled } in n ≡ m)
meaning_is m f a =
    ap (λ z. let n : Meaning = record { source = z; flat = f.flat; settled = f.settled } in n) a.0
    ∙ ap (λ z. let n : Meaning = record { source = m.source; flat = z; settled = f.settled } in n) a.1
    ∙ ap (λ z. let n : Meaning = record { source = m.source; flat = m.flat; settled = z } in n) a.2

pub finished : (m : Meaning) (f : FrontEnd) (images : Images) (r : Result Build SourceError) → Assigns m (Ok f)
    → Finishes f images r → Completes m images r
finished m f images (Ok b) a h = (h.0 ∙ meaning_is m f a, a.3, subst (λ z. IsMade z images b.spec b.policy b.cert b.map) a.0 h.1)
finished m f images (Err e) a h = subst (λ z. Tells m.source (first_edge_fault (source_tables m.source)) z) (sym h) tt

-- ---- of a meaning whose layout is known

imaged_is : {X : Type 0} (a b c d : Option X) → option_or a (option_or b c) ≡ None → option_or a (option_or b (option_or c d)) ≡ d
imaged_is None None None d e = refl
imaged_is None None (Some x) d e = absurd cc
imaged_is None (Some x) c d e = absurd cc
imaged_is (Some x) b c d e = absurd cc

imaged_stays : {X : Type 0} (a b c d : Option X) (x : X) → option_or a (option_or b c) ≡ Some x
    → option_or a (option_or b (option_or c d)) ≡ Some x
imaged_stays None None None d x e = absurd cc
imaged_stays None None (Some y) d x e = e
imaged_stays None (Some y) c d x e = e
imaged_stays (Some y) b c d x e = e

laid_same : (m : Meaning) (images : Images) → IsMeant m.source m.flat m.settled
    → first_laid_fault (given m.source m.flat m.settled images) ≡ first_laid_fault (spaced m.source images)
laid_same m images meant = ap (λ z. first_laid_fault (given m.source z m.settled images)) meant.is_flat
    ∙ ap (λ z. first_laid_fault (given m.source (flat_of m.source) z images)) meant.is_settled

module _ (m : Meaning) (images : Images) (meant : IsMeant m.source m.flat m.settled) where
  edges_left : first_laid_fault (given m.source m.flat m.settled images) ≡ None
      → first_imaged_fault m.source images ≡ first_edge_fault (source_tables m.source)
  edges_left none =
      imaged_is (first_space_fault (flat_of m.source) images) (first_slot_fault m.source (flat_of m.source))
      (first_page_limit (spaced m.source images)) (first_edge_fault (source_tables m.source))
      (sym (laid_same m images meant) ∙ none)

  pub completed : (r : Result Build SourceError) → first_laid_fault (given m.source m.flat m.settled images) ≡ None
      → Completes m images r → Lays m images r
  completed (Ok b) none h = (h.0, edges_left none ∙ h.1, h.2)
  completed (Err e) none h = subst (λ z. Tells m.source z e) (sym (edges_left none)) h

  laid_tells : (e : SourceError) → Tells m.source (first_laid_fault (spaced m.source images)) e
      → Tells m.source (first_imaged_fault m.source images) e
  laid_tells (error.Fault fault file) t = (
    imaged_stays (first_space_fault (flat_of m.source) images) (first_slot_fault m.source (flat_of m.source))
        (first_page_limit (spaced m.source images)) (first_edge_fault (source_tables m.source)) fault t.0,
    t.1,
  )
  laid_tells (error.ReadFault file) t = absurd t
  laid_tells error.NoMemory t = tt

  pub laid_refused : (r : Refused Fault) (e : SourceError)
      → RefusesAs {T = Layout} (Err r) (first_laid_fault (given m.source m.flat m.settled images)) → IsRefused m.source r e
      → Lays m images (Err e)
  laid_refused r e h n =
      laid_tells e (refused_tells Layout m.source (first_laid_fault (spaced m.source images)) r e
      (subst (λ o. RefusesAs {T = Layout} (Err r) o) (laid_same m images meant) h) n)

-- ---- of a meaning

-- what was read of its tables, by the root's own name and the flat system that is meant
read_of : (contents : Contents) (m : Meaning) (root : List ℕ) (r : Result Images SourceError) → IsMeant m.source m.flat m.settled
    → root ≡ root_of m.source
    → AreImagesRead contents root m.source m.flat r → AreImagesRead contents (root_of m.source) m.source (flat_of m.source) r
read_of contents m root r meant e h =
    subst (λ z. AreImagesRead contents (root_of m.source) m.source z r) meant.is_flat
    (subst (λ z. AreImagesRead contents z m.source m.flat r) e h)

pub tables_named : (m : Meaning) (root : List ℕ) → IsMeant m.source m.flat m.settled → root ≡ root_of m.source
    → table_names root m.source m.flat ≡ tables_beside m.source
tables_named m root meant e = ap (λ z. table_names z m.source m.flat) e ∙ ap (λ z. table_names (root_of m.source) m.source z)
    meant.is_flat

pub images_imaged : (contents : Contents) (root : List ℕ) (m : Meaning) (images : Images)
    → AreImagesOf contents root m.source m.flat images → IsWithin m.source m.flat → IsImaged m.flat images
images_imaged contents root m images are within =
    let found = found_of contents root m.source m.flat in
    record {
      numbered = subst (AreNumbered m.flat) (sym are.images) (images_numbered root m.source m.flat found
          (found_count contents (table_names root m.source m.flat) found refl) are.clean within);
      sound = λ n image at s in_it. images_sound (types m.source m.flat) found n image
          (sym (ap (λ z. slice_get z.images n) are.images) ∙ at) s in_it;
    }

clean_is : (s : Source) (found : List Found) (images : Images) (o : Option Fault)
    → first_table_fault (root_of s) s (flat_of s) found ≡ None → images ≡ images_from s found → first_imaged_fault s images ≡ o
    → first_layout_fault s found ≡ o
clean_is s found images o none same e =
    second_is (first_table_fault (root_of s) s (flat_of s) found) (first_imaged_fault s (images_from s found)) o none
    (ap (first_imaged_fault s) (sym same) ∙ e)

in_source : (s : Source) (found : List Found) (n : ℕ) → first_table_fault (root_of s) s (flat_of s) found ≡ None
    → file_of s found n ≡ name_of_file s n
in_source s found n none = ap (λ (o : Option Fault). if is_some o then name_with_tables (root_of s) s (flat_of s) n else
    name_of_file s n) none

in_tables : (s : Source) (found : List Found) (n : ℕ) (f : Fault) → first_table_fault (root_of s) s (flat_of s) found ≡ Some f
    → file_of s found n ≡ name_with_tables (root_of s) s (flat_of s) n
in_tables s found n f some = ap (λ (o : Option Fault). if is_some o then name_with_tables (root_of s) s (flat_of s) n else
    name_of_file s n) some

module _ (contents : Contents) (before now : List ℕ → ℕ) (m : Meaning) (images : Images)
    (is : AreImagesOf contents (root_of m.source) m.source (flat_of m.source) images) where
  laid_builds : (r : Result Build SourceError) → Lays m images r → Builds m contents before now r
  laid_builds (Ok b) h = record {
    same = h.0;
    clean = clean_is m.source (found_beside contents m.source) images None is.clean is.images h.1;
    made = subst (λ z. IsMade m.source z b.spec b.policy b.cert b.map) is.images h.2;
  }
  laid_builds (Err (error.Fault fault file)) t = record {
    first = clean_is m.source (found_beside contents m.source) images (Some fault) is.clean is.images t.0;
    named = t.1.1 ∙ sym (in_source m.source (found_beside contents m.source) fault.place.file is.clean);
  }
  laid_builds (Err (error.ReadFault file)) t = absurd t
  laid_builds (Err error.NoMemory) t = tt

pub built_of_images : (contents : Contents) (before now : List ℕ → ℕ) (m : Meaning) (root : List ℕ) (images : Images)
    (r : Result Build SourceError) → IsMeant m.source m.flat m.settled → root ≡ root_of m.source
    → AreImagesOf contents root m.source m.flat images → Lays m images r → Builds m contents before now r
built_of_images contents before now m root images r meant e h lays =
    laid_builds contents before now m images (read_of contents m root (Ok images) meant e h) r lays

unread_builds : (contents : Contents) (before now : List ℕ → ℕ) (m : Meaning) (e : SourceError)
    → AreImagesRead contents (root_of m.source) m.source (flat_of m.source) (Err e)
    → ((file : List ℕ) → ◌≡◌ {A = Result Images SourceError} (Err e) (Err (error.ReadFault file))
    → Rose (before file) (now file)) → Builds m contents before now (Err e)
unread_builds contents before now m (error.Fault fault file) h rose = record {
  first = ap (λ o. option_or o (first_imaged_fault m.source (images_beside contents m.source))) h.first;
  named = h.named ∙ sym (in_tables m.source (found_beside contents m.source) fault.place.file fault h.first);
}
unread_builds contents before now m (error.ReadFault file) h rose = (h, rose file refl)
unread_builds contents before now m error.NoMemory h rose = tt

pub built_unread : (contents : Contents) (before now : List ℕ → ℕ) (m : Meaning) (root : List ℕ) (e : SourceError)
    → IsMeant m.source m.flat m.settled → root ≡ root_of m.source
    → AreImagesRead contents root m.source m.flat (Err e)
    → ((file : List ℕ) → ◌≡◌ {A = Result Images SourceError} (Err e) (Err (error.ReadFault file))
    → Rose (before file) (now file)) → Builds m contents before now (Err e)
built_unread contents before now m root e meant same h rose =
    unread_builds contents before now m e (read_of contents m root (Err e) meant same h) rose

-- ---- of a root

first_is : (s : Source) (found : List Found) (o : Option Fault) → first_front_fault s ≡ None → first_layout_fault s found ≡ o
    → first_fault s found ≡ o
first_is s found o none e = second_is (first_front_fault s) (first_layout_fault s found) o none e

module _ (root : List ℕ) (contents : Contents) (m : Meaning) (is : IsMeaningOf root contents m) where
  build_of : (b : Build) → IsBuiltOf m contents b → IsBuildOf root contents b
  build_of b h =
      let same : m ≡ b.meaning = sym h.same in
      record {
        meant = subst (IsMeaningOf root contents) same is;
        clean = ap (λ (z : Meaning). first_fault z.source (found_beside contents z.source)) h.same
            ∙ first_is m.source (found_beside contents m.source) None is.none h.clean;
        made = subst (λ (z : Meaning). IsMade z.source (images_beside contents z.source) b.spec b.policy b.cert
            b.map) same h.made;
      }

  -- what every build has is so of what is built
  pub built_so : (P : Build → Type 0) → ((b : Build) → IsBuildOf root contents b → P b)
      → (before now : List ℕ → ℕ) (r : Result Build SourceError) → Builds m contents before now r → IfOk r P
  built_so P so before now (Ok b) h = so b (build_of b h)
  built_so P so before now (Err e) h = tt

  pub built_compiled : (old mid now : List ℕ → ℕ) (r : Result Build SourceError) → NoneFell old mid → Builds m contents mid now r
      → IsCompiled root contents old now r
  built_compiled old mid now (Ok b) later h = build_of b h
  built_compiled old mid now (Err (error.Fault fault file)) later h =
      inr (m.source, record { loaded = is.loaded; none = is.none }, h)
  built_compiled old mid now (Err (error.ReadFault file)) later h = (
    inr (m.source, record { loaded = is.loaded; none = is.none }, h.0),
    rose_after (old file) (mid file) (now file)
        (later file) h.1,
  )
  built_compiled old mid now (Err error.NoMemory) later h = tt

pub refused_compiled : (root : List ℕ) (contents : Contents) (before now : List ℕ → ℕ) (e : SourceError)
    → Refuses first_front_fault root contents before now e → IsRefusal root contents before now e
refused_compiled root contents before now (error.Fault fault file) h = inl h
refused_compiled root contents before now (error.ReadFault file) h = (inl h.0, h.1)
refused_compiled root contents before now error.NoMemory h = tt
