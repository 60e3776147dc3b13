use Rattle.cap_audit.proofs.Common.{GoesOn, length, unknowns, ◌+◌, ◌-◌, ◌≤◌}
use Rattle.cap_audit.proofs.search.search.Given as goal

abbrev pub invariant-loop-done : goal.invariant-loop-done
invariant-loop-done l = record {
  on : GoesOn l.spec l.initial.web l.done l.web l.hubs;
  within : l.done ≤ length l.web.findings.queue;
}

abbrev pub decreases-loop-done : goal.decreases-loop-done
decreases-loop-done l = (unknowns l.web.findings.known + length l.web.findings.queue) - l.done
