use Rattle.cap_model.proofs.Common.{Authority, IsPartitionPoint-from_clause, nat_lt, number_of, rules, ℕ}
use Rattle.cap_model.proofs.SharedRows.{pairs_class, pairs_parted}
use Rattle.cap_model.proofs.shared.class_of_pairs.Goals as goal

pub returns-clause-class : goal.returns-clause-class
returns-clause-class c = pairs_class (record {
  label = c.args.label;
  pairs = c.in_ok-to_vec.field-0;
  before = c.partition_point.result;
}) c.args.pairs.now
    (c.in_ok-to_vec.ensures.items_if_clones_equal (λ x y e. λ i. (e.0 i, e.1 i))) c.requires.rise c.requires.others
    c.partition_point.ensures.bound
    (IsPartitionPoint-from_clause (λ (p : Authority × ℕ). nat_lt (number_of p.0) 9) c.args.pairs.now c.partition_point.result
    c.partition_point.ensures.partitioned (pairs_parted c.args.pairs.now c.requires.rise) (λ a r f k. search rules))
