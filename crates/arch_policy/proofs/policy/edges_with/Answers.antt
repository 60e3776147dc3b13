use Rattle.arch_policy.proofs.Common.{IsPolicyOf, LabelNumbers, Tables, edge_count, length, subst, ◌≡◌}
use Rattle.arch_policy.proofs.Counted.{table_counts, table_is_policy}
use Rattle.arch_policy.proofs.policy.edges_with.Goals as goal

pub returns-clause-edges : goal.returns-clause-edges
returns-clause-edges c =
    let T : LabelNumbers → Tables = λ n. record {
      source = c.args.source.now;
      flat = c.args.flat.now;
      settled = c.args.settled.now;
      numbers = n;
    } in
    subst (λ n. IsPolicyOf (T n) c.in_ok-table.table) c.requires.numbers
    (table_is_policy (T c.args.numbers.now) c.in_ok-table.table c.in_ok-table.ensures.same)

pub returns-clause-count : goal.returns-clause-count
returns-clause-count c =
    let T : LabelNumbers → Tables = λ n. record {
      source = c.args.source.now;
      flat = c.args.flat.now;
      settled = c.args.settled.now;
      numbers = n;
    } in
    subst (λ n. length c.in_ok-table.table ≡ edge_count (T n)) c.requires.numbers
    (table_counts (T c.args.numbers.now) c.in_ok-table.table c.in_ok-table.ensures.sorted c.in_ok-table.ensures.same)
