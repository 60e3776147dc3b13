use Rattle.boot_plan.proofs.Bases.{length_permuted, regions_permuted}
use Rattle.boot_plan.proofs.pack.Rooms.of.Goals as goal

pub bases-requires-clause-few : goal.bases-requires-clause-few
bases-requires-clause-few c = rw (c.as_slice.ensures.value) (length_permuted c.args.regions.now c.in_ok-regions.regions.items 4096
    c.in_ok-regions.ensures.permutation c.requires.few)

pub bases-requires-clause-sound : goal.bases-requires-clause-sound
bases-requires-clause-sound c = rw (c.as_slice.ensures.value) (regions_permuted c.args.regions.now c.in_ok-regions.regions.items
    c.in_ok-regions.ensures.permutation c.requires.sound)
