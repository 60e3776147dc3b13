use Rattle.system_spec.proofs.Common.{gather, irq, take, ◌≡◌}
use Rattle.system_spec.proofs.listing.irqs.Given as goal

abbrev pub invariant-loop-number : goal.invariant-loop-number
invariant-loop-number l = l.items ≡ gather irq (take l.number l.connections)
