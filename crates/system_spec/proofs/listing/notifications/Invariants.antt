use Rattle.system_spec.proofs.Common.{gather, notification, take, ◌≡◌}
use Rattle.system_spec.proofs.listing.notifications.Given as goal

abbrev pub invariant-loop-number : goal.invariant-loop-number
invariant-loop-number l = l.parts ≡ gather notification (take l.number l.connections)
