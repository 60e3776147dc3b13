use Rattle.boot_plan.proofs.Bases.{regions_permuted}
use Rattle.boot_plan.proofs.Packing.{few_bytes, fit_all, told}
use Rattle.boot_plan.proofs.Placing.{packed_placed}
use Rattle.boot_plan.proofs.planning.places.Goals as goal

pub pack-requires-clause-sound : goal.pack-requires-clause-sound
pack-requires-clause-sound c = regions_permuted c.args.regions.now c.in_ok-rooms.rooms.regions.items
    c.in_ok-rooms.ensures.permutation c.requires.sound

pub pack-requires-clause-fit : goal.pack-requires-clause-fit
pack-requires-clause-fit c =
    rw c.deref_mut.ensures.value (fit_all c.args.needs.now c.args.regions.now c.in_ok-rooms.rooms.regions.items
    c.in_ok-starts.starts.items c.requires.room c.in_ok-rooms.ensures.permutation c.in_ok-starts.ensures)

pub pack-requires-clause-few : goal.pack-requires-clause-few
pack-requires-clause-few c = few_bytes c.args.regions.now c.in_ok-rooms.rooms.regions.items c.requires.sound
    c.requires.few_regions c.in_ok-rooms.ensures.permutation

pub returns : goal.returns
returns c =
    let starts = c.in_ok-starts.starts.items in
    let rooms = c.in_ok-rooms.rooms.regions.items in
    let p = packed_placed c.args.needs.now c.args.regions.now rooms starts c.requires.usual c.requires.sound c.requires.free
    c.requires.room c.in_ok-rooms.ensures.permutation c.in_ok-rooms.ensures.order c.in_ok-starts.ensures in
    let e = c.pack.ensures in
    told c.args.needs.now c.args.regions.now rooms starts c.pack.result p (rw c.deref_mut.ensures.value at e)
