use Rattle.least_cert.proofs.Common.{◌^◌, ◌≤◌}
use Rattle.least_cert.proofs.Leading.{WidensTo}
use Rattle.least_cert.proofs.closing.widened.Given as goal

abbrev pub invariant-loop-next : goal.invariant-loop-next
invariant-loop-next l = WidensTo l.next l.initial.leaders.items l.leaders.items × (l.next ≤ 2 ^ 32)
