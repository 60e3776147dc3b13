-- What a source means, where no fault stands, is within limits.
use Rattle.front_end.proofs.Common.{Flat, HasMeaning, Settled, Source, arith, first_join_fault, first_size_fault, length, no_first, short_few, subst, sym, ◌+◌, ◌<◌, ◌^◌}
use Rattle.flat_laws.proofs.AreWithin.{flat_is_within}
use Rattle.flat_laws.proofs.Small.{small}
use Rattle.flat_laws.specs.Small.{IsSmall}
use Rattle.front_end.proofs.Sound.{faultless}
use Rattle.cspace_layout.specs.Within.{IsWithin}

module _ (s : Source) (flat : Flat) (settled : Settled) (sound : HasMeaning s flat settled) where
  pub sound_within : IsWithin s flat
  sound_within =
      let is = faultless s sound.none in
      subst (IsWithin s) (sym sound.meant.is_flat) (flat_is_within s is.names is.flat (short_few s sound.whole.short))

  pub sound_small : IsSmall flat
  sound_small =
      let is = faultless s sound.none in
      subst IsSmall (sym sound.meant.is_flat) (small s is.names (no_first (first_size_fault s) (first_join_fault s) is.flat))

  pub few_labels : length flat.domains + length flat.connections + length flat.leaves < 2 ^ 32
  few_labels = let small = sound_small in let a = small.domains in let b = small.connections in let c = small.leaves in
      omega (arith, a, b, c)
