use Rattle.system_spec.proofs.Common.{Domain, before, domain_tcbs, domain_threads, gather, take, told, ◌++◌, ◌+◌, ◌≡◌}
use Rattle.system_spec.proofs.map_listing.push_threads.Given as goal

abbrev pub invariant-loop-number : goal.invariant-loop-number
invariant-loop-number l = record {
  so_far : l.lines ≡ l.fn.lines ++ gather (λ d (x : Domain). domain_threads (told l.tables) d)
      (take l.number l.tables.flat.now.domains);
  next : l.next ≡ l.first + before (domain_tcbs (told l.tables)) l.tables.flat.now.domains l.number;
}
