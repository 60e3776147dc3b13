use Rattle.system_spec.proofs.Common.{Owned, [], gather, part, take, ◌∷◌, ◌≡◌}
use Rattle.system_spec.proofs.listing.numbered.Given as goal

abbrev pub invariant-loop-number : goal.invariant-loop-number
invariant-loop-number l = l.parts ≡ gather (λ n (x : Owned). part l.series n x.owner x.what ∷ []) (take l.number l.items)
