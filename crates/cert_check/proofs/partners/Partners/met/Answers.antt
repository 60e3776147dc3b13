use Rattle.cert_check.proofs.Common.{IsPartitionPoint-from_clause, IsPartitionedBy-leb, IsPartitionedBy-ltb, nat_le, nat_lt, rules}
use Rattle.cert_check.proofs.Walks.{reach_of}
use Rattle.cert_check.proofs.partners.Partners.met.Goals as goal

pub returns-clause-reach : goal.returns-clause-reach
returns-clause-reach c =
    let ends = c.args.self.now.ends.items in
    reach_of ends c.args.edge.to c.partition_point.result c.partition_point-2.result
    (rw c.as_slice-ends.ensures.value at c.partition_point.ensures.bound)
    (rw c.as_slice-ends.ensures.value at c.partition_point-2.ensures.bound)
    (IsPartitionPoint-from_clause (λ p. nat_lt p.0 c.args.edge.to) ends c.partition_point.result
    (rw c.as_slice-ends.ensures.value at c.partition_point.ensures.partitioned)
    (IsPartitionedBy-ltb (λ p. p.0) ends c.args.edge.to c.requires) (λ a r f k. search rules))
    (IsPartitionPoint-from_clause (λ p. nat_le p.0 c.args.edge.to) ends c.partition_point-2.result
    (rw c.as_slice-ends.ensures.value at c.partition_point-2.ensures.partitioned)
    (IsPartitionedBy-leb (λ p. p.0) ends c.args.edge.to c.requires) (λ a r f k. search rules))
