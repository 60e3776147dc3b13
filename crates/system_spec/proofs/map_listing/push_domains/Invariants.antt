use Rattle.system_spec.proofs.Common.{Domain, DomainLine, [], gather, take, ◌++◌, ◌∷◌, ◌≡◌}
use Rattle.system_spec.proofs.map_listing.push_domains.Given as goal

abbrev pub invariant-loop-number : goal.invariant-loop-number
invariant-loop-number l = l.lines ≡ l.fn.lines ++ gather (λ d (x : Domain). DomainLine d ∷ [])
    (take l.number l.tables.flat.now.domains)
