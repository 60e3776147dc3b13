use Rattle.system_spec.proofs.Common.{Domain, domain_windows, gather, take, told, ◌++◌, ◌≡◌}
use Rattle.system_spec.proofs.map_listing.push_windows.Given as goal

abbrev pub invariant-loop-number : goal.invariant-loop-number
invariant-loop-number l = l.lines ≡ l.fn.lines ++ gather (λ d (x : Domain). domain_windows (told l.tables) d)
    (take l.number l.tables.flat.now.domains)
