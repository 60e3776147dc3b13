use Rattle.system_spec.proofs.Common.{endpoint, gather, take, ◌≡◌}
use Rattle.system_spec.proofs.listing.endpoints.Given as goal

abbrev pub invariant-loop-number : goal.invariant-loop-number
invariant-loop-number l = l.parts ≡ gather endpoint (take l.number l.connections)
