use Rattle.cap_model.proofs.Common.{IsPartitionPoint-from_clause, nat_lt, rules}
use Rattle.cap_model.proofs.TableRows.{labels_parted, row_from}
use Rattle.cap_model.proofs.rows.rows_below.Goals as goal

pub returns : goal.returns
returns c = row_from c.args.rows.now c.args.label c.partition_point.result c.partition_point.ensures.bound
    (IsPartitionPoint-from_clause (λ r. nat_lt r.label c.args.label) c.args.rows.now c.partition_point.result
    c.partition_point.ensures.partitioned (labels_parted c.args.rows.now c.args.label c.requires) (λ a r f k. search rules))
