use Rattle.system_spec.proofs.Common.{OfDomain, ThreadOf, ThreadPlace, [], gather, owned, take, ◌++◌, ◌∷◌, ◌≡◌}
use Rattle.system_spec.proofs.listing.push_threads.Given as goal

abbrev pub invariant-loop-number : goal.invariant-loop-number
invariant-loop-number l = l.items ≡ l.fn.items ++ gather (λ i (x : ThreadPlace). owned (OfDomain l.domain) (ThreadOf l.domain i)
    ∷ []) (take l.number l.threads)
