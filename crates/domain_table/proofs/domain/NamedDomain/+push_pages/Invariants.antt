use Rattle.domain_table.proofs.Common.{address, flat_map, length, page_rows, take, ◌++◌, ◌≡◌}
use Rattle.domain_table.proofs.domain.NamedDomain.+push_pages.Given as goal

abbrev pub decreases-push_pages : goal.decreases-push_pages
decreases-push_pages l = length l.steps.now

abbrev pub invariant-loop-slot : goal.invariant-loop-slot
invariant-loop-slot l =
    l.rows ≡ l.fn.rows ++ flat_map (λ s. page_rows l.self.names.spec.now l.below (address l.at s.0 l.step) s.1)
    (take l.slot-index l.slot-items)
