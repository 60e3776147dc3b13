use Rattle.boot_plan.proofs.Common.{IsPartitionPoint, IsPartitionPoint-from_clause, IsPartitionedBy-leb, false, leb, length, rules, true, ◌≡◌, ◌≤◌}
use Rattle.boot_plan.proofs.Bases.{Found, found, rising}
use Rattle.boot_plan.proofs.pack.Rooms.place_of.Goals as goal

here : (c : goal.After-partition_point) → Found c.args.self.now.regions.items c.args.self.now.bases.items c.args.offset
    c.partition_point.result
here c =
    let bs = c.args.self.now.bases.items in
    let offset = c.args.offset in
    let k = c.partition_point.result in
    let point : IsPartitionPoint (λ b. leb b offset ≡ true) (λ b. leb b offset ≡ false) bs k =
    rw (← c.deref.ensures.value) (IsPartitionPoint-from_clause (λ b. leb b offset) c.deref.result.now k
    c.partition_point.ensures.partitioned
    (rw c.deref.ensures.value (IsPartitionedBy-leb (λ b. b) bs offset (rising c.args.self.now.regions.items bs c.requires.bases)))
    (λ b r f h. search rules)) in
    let bound : k ≤ length bs = rw (← c.deref.ensures.value) c.partition_point.ensures.bound in
    found c.args.self.now.regions.items bs offset k c.requires.bases c.requires.within bound point

pub overflow_sub-result : goal.overflow_sub-result
overflow_sub-result c = (here c).some

pub returns : goal.returns
returns c = (here c).has
