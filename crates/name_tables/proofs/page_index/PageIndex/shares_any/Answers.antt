use Rattle.name_tables.proofs.Common.{IsPartitionPoint, IsPartitionPoint-from_clause, IsPartitionedBy-ltb, IsReach, ap, false, length, list_any, nat_lt, rules, shares, sym, take, true, ◌∙◌, ◌≡◌, ◌≤◌}
use Rattle.name_tables.proofs.PageSearch.{any-shares}
use Rattle.name_tables.proofs.page_index.PageIndex.shares_any.Goals as goal

pub returns : goal.returns
returns c =
    let a = c.args.region.now in
    let rs = c.self.inside.regions.items in
    let k = c.partition_point-before.result in
    let e = c.end-end.result in
    let point : IsPartitionPoint (λ r. nat_lt r.first e ≡ true) (λ r. nat_lt r.first e ≡ false) rs k =
    rw (← c.deref.ensures.value) (IsPartitionPoint-from_clause (λ r. nat_lt r.first e) c.deref.result.now k
    c.partition_point-before.ensures.partitioned
    (rw c.deref.ensures.value (IsPartitionedBy-ltb (λ r. r.first) rs e c.self.invariant.order)) (λ b r f h. search rules)) in
    let bound : k ≤ length rs = rw (← c.deref.ensures.value) c.partition_point-before.ensures.bound in
    let reach : IsReach (take k rs) c.index.result.now =
    rw c.index.ensures (c.self.invariant.reaches.reach k c.index.result.now bound) in
    c.is_behind.ensures (take k rs) reach ∙ sym (any-shares a e c.end-end.ensures rs k bound point)
    ∙ ap (list_any (shares a)) c.self.view_is
