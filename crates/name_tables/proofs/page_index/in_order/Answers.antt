use Rattle.name_tables.proofs.Common.{IsNonDecreasingBy-from_sort_by_key, rules}
use Rattle.name_tables.proofs.page_index.in_order.Goals as goal

pub returns-clause-order : goal.returns-clause-order
returns-clause-order c = IsNonDecreasingBy-from_sort_by_key (λ r. r.first) c.sort_unstable_by_key.new.self.items
    c.sort_unstable_by_key.ensures.sorted (λ a r f k. search rules)
