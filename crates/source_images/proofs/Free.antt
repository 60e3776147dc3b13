-- Where no fault of address spaces stands, sections lie apart and where they may.
use Rattle.source_images.proofs.Common.{AreApart, AreNumbered, AreSound, Bool, Fault, Flat, Image, Images, IsIn, List, None, Placed, Some, [], arch_of, at_place, both_ways, cases_Bool, clashes, domain_faults, false, fault_at, first_space_fault}
use Rattle.source_images.proofs.Common.{image_faults, image_number, in_any, in_place, is_inside, is_outside, leaf_faults, least-empty, list_any, none_in, not, not-false, refl, sections_end, sections_of, slice_get, space_faults, sym, true, where_true}
use Rattle.source_images.proofs.Common.{ℕ, rules, ⊎_elim, ◌++◌, ◌∙◌, ◌≡◌}
use Rattle.adl_meaning.specs.declared.flat.Domain.{Domain}
use Rattle.cam_base.specs.declared.code.Code.TheVariants as code
use Rattle.source_images.proofs.Apart.{run_by}
use Rattle.source_images.proofs.Leaves.{leaf_is}
use Rattle.source_images.proofs.SectionsTold.{comes_from}

-- ---- lists in which nothing stands

two_free : (b c : Bool) (f g : Fault) → where_true b f ++ where_true c g ≡ [] → (b ≡ false) × (c ≡ false)
two_free true c f g e = cc
two_free false true f g e = cc
two_free false false f g e = (refl, refl)

none_any : {X : Type 0} (p : X → Bool) (xs : List X) (x : X) → list_any p xs ≡ false → IsIn x xs → p x ≡ false
none_any p xs x e i = ⊎_elim (λ t. absurd (both_ways (list_any p xs) e (in_any p xs x i t))) (λ f. f) (cases_Bool (p x))

-- ---- the programs of a domain

module _ (flat : Flat) (images : Images) (numbered : AreNumbered flat images) (none : first_space_fault flat images ≡ None)
    (domain : Domain) (within : IsIn domain flat.domains) where
  image_free : (leaf m : ℕ) (image : Image) → IsIn leaf domain.leaves → image_number images leaf ≡ Some m
      → slice_get images.images m ≡ Some image
      → (clashes (sections_of images domain.leaves) m ≡ false) × (is_outside (sections_end (arch_of images.images)) image ≡ false)
  image_free leaf m image i e at =
      let test : ℕ → Bool = clashes (sections_of images domain.leaves) in
      let x = at_place flat.leaves leaf (numbered.listed domain within leaf i) in
      let free : leaf_faults flat images test leaf ≡ [] =
      none_in (leaf_faults flat images test) domain.leaves leaf (none_in (λ d. domain_faults flat images d.leaves) flat.domains
      domain (least-empty (space_faults flat images) none) within) i in
      let both : image_faults (sections_end (arch_of images.images)) x.0.place (test m) image ≡ [] =
      sym (leaf_is flat images test leaf m image x.0 x.1 e at) ∙ free in
      two_free (test m) (is_outside (sections_end (arch_of images.images)) image)
      (fault_at code.SectionOverlap x.0.place image.name) (fault_at code.Window x.0.place image.name) both

  clash_free : (leaf m : ℕ) → IsIn leaf domain.leaves → image_number images leaf ≡ Some m
      → clashes (sections_of images domain.leaves) m ≡ false
  clash_free leaf m i e = let image = at_place images.images m (numbered.runs leaf m e) in
      (image_free leaf m image.0 i e image.1).0

  pub free_apart : AreSound images → AreApart images domain.leaves
  free_apart each = search (rules, comes_from, in_place, clash_free)

  pub free_inside : (x : Placed) → IsIn x (sections_of images domain.leaves)
      → is_inside (sections_end (arch_of images.images)) x.section ≡ true
  free_inside x i =
      let end = sections_end (arch_of images.images) in
      let from = comes_from images domain.leaves x i in
      let leaf = run_by images domain.leaves x i in
      let outside = (image_free leaf.0 x.image from.image leaf.1 leaf.2 from.at).1 in
      not-false (is_inside end x.section) (none_any (λ s. not (is_inside end s)) from.image.sections x.section outside
      (in_place x.section from.image.sections x.number from.section))
