use Rattle.arch_policy.proofs.Common.{IsPartitionPoint-from_clause, comes_before, rules, subst, sym}
use Rattle.arch_policy.proofs.Ordering.{Rises, order_rises, parted, parted_count}
use Rattle.arch_policy.proofs.labels.rank.Goals as goal

pub returns : goal.returns
returns c =
    let ts = c.args.texts.now in
    let t = c.args.text.now in
    let rises : Rises ts = subst Rises (sym c.requires.1) (order_rises c.requires.0) in
    sym (parted_count (λ s. comes_before s t) ts c.partition_point.result c.partition_point.ensures.bound
    (IsPartitionPoint-from_clause (λ s. comes_before s t) ts c.partition_point.result c.partition_point.ensures.partitioned
    (parted ts t rises) (λ a r f k. search rules)))
