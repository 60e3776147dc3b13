-- What layouts ask of a source without faults.
use Rattle.arch_compile.proofs.Common.{Flat, HasMeaning, Images, IsBuildable, IsImaged, IsLaid, IsMeant, IsWindowed, Layout, None, Settled, Source, faultless, first_page_limit, first_slot_fault, first_space_fault, flat_of, given, settled_of}
use Rattle.arch_compile.proofs.Common.{slots_of, spaces_of, subst, sym, tables_from, ◌≡◌}
use Rattle.spec_laws.proofs.Bounds.{can_build, can_lay, can_map}
use Rattle.vspace_layout.specs.CanLay.{CanLay}

meant_at : (P : Flat → Settled → Type 0) (s : Source) (flat : Flat) (settled : Settled) → IsMeant s flat settled
    → P (flat_of s) (settled_of s) → P flat settled
meant_at P s flat settled meant p = subst (λ z. P z settled) (sym meant.is_flat)
    (subst (λ z. P (flat_of s) z) (sym meant.is_settled) p)

abbrev Buildable : Source → Images → Flat → Settled → Type 0
Buildable s images flat settled =
    IsImaged flat images → first_space_fault flat images ≡ None → first_slot_fault s flat ≡ None
    → first_page_limit (given s flat settled images) ≡ None
    → IsBuildable (tables_from s flat settled images)

module _ (s : Source) (flat : Flat) (settled : Settled) (images : Images) (sound : HasMeaning s flat settled) where
  pub sound_lays : CanLay (given s flat settled images)
  sound_lays =
      let is = faultless s sound.none in
      meant_at (λ f x. CanLay (given s f x images)) s flat settled sound.meant (can_lay s images sound.whole.short is.names
      is.types is.flat is.settings)

  pub sound_builds : Buildable s images flat settled
  sound_builds =
      let is = faultless s sound.none in
      meant_at (Buildable s images) s flat settled sound.meant
      (λ imaged space slots pages. can_build s images sound.whole.short is.names is.types is.flat is.settings imaged.numbered
      imaged.sound space slots pages)

  sound_maps : IsWindowed (tables_from s flat settled images)
  sound_maps =
      let is = faultless s sound.none in
      meant_at (λ f x. IsWindowed (tables_from s f x images)) s flat settled sound.meant
      (can_map s images sound.whole.short is.names is.types is.flat is.settings)

  pub sound_laid : (l : Layout) → IsImaged flat images → first_space_fault flat images ≡ None → first_slot_fault s flat ≡ None
      → first_page_limit (given s flat settled images) ≡ None
      → l.slots ≡ slots_of s flat → l.spaces ≡ spaces_of (given s flat settled images) → IsLaid s flat settled images l
  sound_laid l imaged space slots pages a b = record {
    slots = a;
    spaces = b;
    buildable = sound_builds imaged space slots pages;
    windowed = sound_maps;
  }
