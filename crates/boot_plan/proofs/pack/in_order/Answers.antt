use Rattle.boot_plan.proofs.Common.{IsNonDecreasingBy-from_sort_by_key, rank, rules}
use Rattle.boot_plan.proofs.pack.in_order.Goals as goal

pub returns-clause-order : goal.returns-clause-order
returns-clause-order c = IsNonDecreasingBy-from_sort_by_key rank c.sort_unstable_by_key.new.self.items
    c.sort_unstable_by_key.ensures.sorted (λ a r f k. search rules)
