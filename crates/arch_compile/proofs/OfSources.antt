-- Builds are those of their source: slots and images are told of its tables, from which its spec and its map are made.
use Rattle.arch_compile.proofs.Common.{Build, Contents, Images, IsBuildOf, IsOfSource, List, Source, ap, images_beside, labels_of, object_labels, spec_of, subst, sym, system_tables, ℕ, ◌≡◌}
use Rattle.cap_model.specs.declared.object_labels.Labels.{Labels}
use Rattle.arch_compile.proofs.Facts.{AreFacts, build_facts}
use Rattle.arch_compile.proofs.Soundness.{labels_are}
use Rattle.spec_laws.proofs.HavingImages.{programs_have_images}
use Rattle.spec_laws.proofs.Maps.{tables_can_map}
use Rattle.spec_laws.proofs.SourceSlots.{tables_have_slots}
use Rattle.spec_laws.proofs.Images.{images_are}
use Rattle.spec_laws.proofs.Locks.{own_locks}
use Rattle.spec_laws.proofs.Slots.{are_slots}
use Rattle.spec_laws.specs.CanMap.{CanMap}
use Rattle.spec_laws.specs.Imaged.{AreImages}
use Rattle.spec_laws.specs.Slotted.{AreSlots, CanSlot}
use Rattle.spec_laws.specs.Spaced.{root_of}
use Rattle.system_spec.specs.MapLines.{map_lines}
use Rattle.arch_compile.proofs.OwnersLabels.{has_label}
use Rattle.arch_compile.proofs.Programs.{program_is}

module _ (contents : Contents) (s : Source) (images : Images) (facts : AreFacts contents s images) where
  can_slot : CanSlot (system_tables s images)
  can_slot = let f = facts.faultless in tables_have_slots s images facts.short f.names f.types f.settings facts.slot

  can_map : CanMap (system_tables s images)
  can_map =
      let f = facts.faultless in
      tables_can_map s images facts.short f.names f.types f.flat f.settings facts.numbered facts.sound facts.space
      facts.slot facts.page
      (programs_have_images contents _ s images f.names facts.read)

pub build_of_source : (root : List ℕ) (contents : Contents) (b : Build) → IsBuildOf root contents b → IsOfSource contents b
build_of_source root contents b is =
    let s = b.meaning.source in let images = images_beside contents s in
    let t = system_tables s images in let facts = build_facts root contents b is in
    let slot = can_slot contents s images facts in
    let labels : labels_of t ≡ object_labels b = ap (λ (z : List ℕ). let l : Labels = record { by_object = z } in
    l) (sym (labels_are s images facts b is.made)) in
    let slots : AreSlots t (spec_of t) (map_lines t) = record { has = are_slots t slot; own_locks = own_locks t slot } in
    let imaged : AreImages t (spec_of t) (root_of t) (labels_of t) (map_lines t) =
    images_are t (can_map contents s images facts) slot in
    let spec_is : spec_of t ≡ b.spec = sym is.made.spec_is in
    let map_is : map_lines t ≡ b.map = sym is.made.map_is in
    record {
      read = facts.read;
      programs = λ leaf found image at runs. program_is contents _ s images facts.read facts.numbered leaf runs.number found image
          at runs.numbered runs.listed;
      slots = subst (λ z. AreSlots t z b.map) spec_is (subst (AreSlots t (spec_of t)) map_is slots);
      imaged = subst (λ z. AreImages t b.spec (root_of t) z b.map) labels
          (subst (λ z. AreImages t z (root_of t) (labels_of t) b.map) spec_is
          (subst (AreImages t (spec_of t) (root_of t) (labels_of t)) map_is imaged));
      labelled = λ at owner path has is_of. has_label s images b is.made at owner path has is_of;
    }
