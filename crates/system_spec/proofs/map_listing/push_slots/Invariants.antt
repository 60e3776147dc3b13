use Rattle.system_spec.proofs.Common.{Domain, before, domain_locks, domain_slots, gather, take, told, ◌++◌, ◌+◌, ◌≡◌}
use Rattle.system_spec.proofs.map_listing.push_slots.Given as goal

abbrev pub invariant-loop-number : goal.invariant-loop-number
invariant-loop-number l = record {
  so_far : l.lines ≡ l.fn.lines ++ gather (λ d (x : Domain). domain_slots (told l.tables) d)
      (take l.number l.tables.flat.now.domains);
  next : l.next ≡ l.first_lock + before (domain_locks (told l.tables)) l.tables.flat.now.domains l.number;
}
