use Rattle.domain_table.proofs.Common.{address, flat_map, page_rows, take, ◌++◌, ◌≡◌}
use Rattle.domain_table.proofs.domain.NamedDomain.push_space.Given as goal

abbrev pub invariant-loop-slot : goal.invariant-loop-slot
invariant-loop-slot l =
    l.rows ≡ l.fn.rows ++ flat_map (λ s. page_rows l.self.names.spec.now l.below (address 0 s.0 l.step) s.1)
    (take l.slot-index l.slots)
