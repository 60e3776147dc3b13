use Rattle.system_spec.proofs.Common.{CNodeOf, Domain, OfDomain, [], gather, owned, take, ◌∷◌, ◌≡◌}
use Rattle.system_spec.proofs.listing.cnodes.Given as goal

abbrev pub invariant-loop-number : goal.invariant-loop-number
invariant-loop-number l = l.items ≡ gather (λ d (x : Domain). owned (OfDomain d) (CNodeOf d) ∷ []) (take l.number l.domains)
