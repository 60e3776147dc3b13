use Rattle.boot_plan.proofs.Common.{arith}
use Rattle.boot_plan.proofs.Bases.{address_read, address_small, base_low}
use Rattle.boot_plan.proofs.pack.Rooms.address.Goals as goal

pub overflow_sub-result : goal.overflow_sub-result
overflow_sub-result c =
    base_low c.args.self.now.regions.items c.args.self.now.bases.items c.args.offset c.place_of-place.result c.index-2.result.now
    c.requires.bases c.place_of-place.ensures c.index-2.ensures

pub overflow_add-result : goal.overflow_add-result
overflow_add-result c =
    let small = address_small c.args.self.now.regions.items c.args.self.now.bases.items c.args.offset c.place_of-place.result
    c.index-2.result.now c.index.result.now c.requires.bases c.requires.sound c.place_of-place.ensures c.index-2.ensures
    c.index.ensures in
    omega (arith, small)

pub returns : goal.returns
returns c = address_read c.args.self.now.regions.items c.args.self.now.bases.items c.args.offset c.place_of-place.result
    c.index-2.result.now c.index.result.now c.requires.bases c.place_of-place.ensures c.index-2.ensures c.index.ensures
