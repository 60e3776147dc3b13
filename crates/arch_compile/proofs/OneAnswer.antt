-- In given contents there is one answer of `compile`, aside from failed reads and want of memory.
use Rattle.arch_compile.proofs.Common.{Build, SourceError, Contents, Edge, Err, Fault, Images, IsBuildOf, IsCompiled, IsFirstFault, IsMade, IsSorted, List, None, Ok, Option, Policy, Result, Some, Source, Spec, ap, false, file_of, first_fault}
use Rattle.arch_compile.proofs.Common.{first_front_fault, first_layout_fault, found_beside, has, images_beside, inl, inr, no_first, no_second, subst, sym, true, yields, ℕ, ◌↔◌, ◌∙◌, ◌≡◌}
use Rattle.adl_import.specs.Loaded.{IsLoaded}
use Rattle.cap_model.proofs.TableMembers.{one_table}
use Rattle.front_end.proofs.OneAnswer.{both, faults_same, meanings_same, none_faulted, one_fault, one_loaded}
use Rattle.cam_base.specs.declared.error.Unread.TheVariants as error
use Rattle.system_spec.specs.declared.map_line.MapLine.{MapLine}

-- ---- what is made is one

edges_one : (xs ys : List Edge) (P : Edge → Type 0) → IsSorted xs → IsSorted ys → ((e : Edge) → (has xs e ≡ true) ↔ P e)
    → ((e : Edge) → (has ys e ≡ true) ↔ P e) → xs ≡ ys
edges_one xs ys P p q a b = one_table xs ys p q (λ e. both (has xs e) (has ys e) (a e) (b e))

policies_one : (s : Source) (images : Images) (spec spec' : Spec) (p q : Policy) (cert cert' : List Edge)
    (map map' : List MapLine) → IsMade s images spec p cert map → IsMade s images spec' q cert' map' → p ≡ q
policies_one s images spec spec' p q cert cert' map map' a b =
    let edges : p.edges ≡ q.edges = edges_one p.edges q.edges _ a.sorted b.sorted a.edges b.edges in
    ap (λ z. let r : Policy = record { labels = z; objects = p.objects; edges = p.edges } in r) (a.labels ∙ sym b.labels)
    ∙ ap (λ z. let r : Policy = record { labels = q.labels; objects = z; edges = p.edges } in r) (a.objects ∙ sym b.objects)
    ∙ ap (λ z. let r : Policy = record { labels = q.labels; objects = q.objects; edges = z } in r) edges

builds_one : (s : Source) (images : Images) (b c : Build) → b.meaning ≡ c.meaning → IsMade s images b.spec b.policy b.cert b.map
    → IsMade s images c.spec c.policy c.cert c.map → b ≡ c
builds_one s images b c meaning x y =
    let spec : b.spec ≡ c.spec = x.spec_is ∙ sym y.spec_is in
    let policy = policies_one s images b.spec c.spec b.policy c.policy b.cert c.cert b.map c.map x y in
    let cert : b.cert ≡ c.cert = edges_one b.cert c.cert _ x.cert_sorted y.cert_sorted x.certified y.certified in
    let map : b.map ≡ c.map = x.map_is ∙ sym y.map_is in
    ap (λ z. let d : Build = record { meaning = z; spec = b.spec; policy = b.policy; cert = b.cert; map = b.map } in d) meaning
    ∙ ap (λ z. let d : Build = record { meaning = c.meaning; spec = z; policy = b.policy; cert = b.cert; map = b.map } in d) spec
    ∙ ap (λ z. let d : Build = record { meaning = c.meaning; spec = c.spec; policy = z; cert = b.cert; map = b.map } in d) policy
    ∙ ap (λ z. let d : Build = record { meaning = c.meaning; spec = c.spec; policy = c.policy; cert = z; map = b.map } in d) cert
    ∙ ap (λ z. let d : Build = record { meaning = c.meaning; spec = c.spec; policy = c.policy; cert = c.cert; map = z } in d) map

module _ (m : Contents) (root : List ℕ) where
  pub builds_same : (b c : Build) → IsBuildOf root m b → IsBuildOf root m c → b ≡ c
  builds_same b c x y =
      let meaning = meanings_same m root b.meaning c.meaning x.meant y.meant in
      let source : b.meaning.source ≡ c.meaning.source = ap (λ z. z.source) meaning in
      builds_one c.meaning.source (images_beside m c.meaning.source) b c meaning
      (subst (λ z. IsMade z (images_beside m z) b.spec b.policy b.cert b.map) source x.made)
      y.made

  -- ---- faults

  -- no fault is first where none stands
  pub none_first : (s : Source) (fault : Fault) (file : List ℕ) → IsLoaded m root (Ok s) → first_fault s (found_beside m s) ≡ None
      → IsFirstFault root m fault file → ⊥
  none_first s fault file loaded none (inl f) =
      none_faulted first_front_fault m root s fault file loaded
      (no_first (first_front_fault s) (first_layout_fault s (found_beside m s)) none) f
  none_first s fault file loaded none (inr f) =
      let source = one_loaded m root s f.0 loaded f.1.loaded in
      let clean = no_second (first_front_fault s) (first_layout_fault s (found_beside m s)) none in
      let same : ◌≡◌ {A = Option Fault} None (Some fault) =
      sym clean ∙ ap (λ (z : Source). first_layout_fault z (found_beside m z)) source ∙ f.2.first in
      cc

  pub build_first : (b : Build) (fault : Fault) (file : List ℕ) → IsBuildOf root m b → IsFirstFault root m fault file → ⊥
  build_first b fault file x f = none_first b.meaning.source fault file x.meant.loaded x.clean f

  pub one_first : (f g : Fault) (a b : List ℕ) → IsFirstFault root m f a → IsFirstFault root m g b → (f ≡ g) × (a ≡ b)
  one_first f g a b (inl x) (inl y) = one_fault first_front_fault m root f g a b x y
  one_first f g a b (inl x) (inr y) = absurd (none_faulted first_front_fault m root y.0 f a y.1.loaded y.1.none x)
  one_first f g a b (inr x) (inl y) = absurd (none_faulted first_front_fault m root x.0 g b x.1.loaded x.1.none y)
  one_first f g a b (inr x) (inr y) =
      let source = one_loaded m root x.0 y.0 x.1.loaded y.1.loaded in
      let fault : ◌≡◌ {A = Option Fault} (Some f) (Some g) =
      sym x.2.first ∙ ap (λ (z : Source). first_layout_fault z (found_beside m z)) source ∙ y.2.first in
      let same : f ≡ g = cc in (
        same,
        x.2.named ∙ ap (λ (z : Source). file_of z (found_beside m z) f.place.file) source
            ∙ ap (λ (z : Fault). file_of y.0 (found_beside m y.0) z.place.file) same ∙ sym y.2.named,
      )

-- ---- answers

pub one_build : (m : Contents) (root : List ℕ) (old new later last : List ℕ → ℕ) (a b : Result Build SourceError)
    → yields a ≡ false → yields b ≡ false
    → IsCompiled root m old new a → IsCompiled root m later last b → a ≡ b
one_build m root old new later last (Ok f) (Ok g) p q x y = ap Ok (builds_same m root f g x y)
one_build m root old new later last (Ok f) (Err (error.Fault g b)) p q x y = absurd (build_first m root f g b x y)
one_build m root old new later last (Err (error.Fault f a)) (Ok g) p q x y = absurd (build_first m root g f a y x)
one_build m root old new later last (Err (error.Fault f a)) (Err (error.Fault g b)) p q x y =
    faults_same f g a b (one_first m root f g a b x y)
one_build m root old new later last _ _ p q x y = cc
