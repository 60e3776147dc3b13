use Rattle.cap_model.proofs.Common.{IsPartitionPoint-from_clause, nat_le, rules}
use Rattle.cap_model.proofs.TableRows.{firsts_parted, row_past}
use Rattle.cap_model.proofs.rows.rows_up_to.Goals as goal

pub returns : goal.returns
returns c = row_past c.args.rows.now c.args.place c.partition_point.result c.partition_point.ensures.bound
    (IsPartitionPoint-from_clause (λ r. nat_le r.first c.args.place) c.args.rows.now c.partition_point.result
    c.partition_point.ensures.partitioned (firsts_parted c.args.rows.now c.args.place c.requires) (λ a r f k. search rules))
