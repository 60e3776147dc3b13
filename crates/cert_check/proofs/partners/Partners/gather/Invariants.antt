use Rattle.cert_check.proofs.Common.{HasPartners, length, ◌+◌, ◌-◌, ◌≤◌}
use Rattle.cert_check.proofs.partners.Partners.gather.Given as goal

abbrev pub invariant-loop-past : goal.invariant-loop-past
invariant-loop-past l = record {
  part : HasPartners l.rule l.cert l.from l.past l.self.ends.items;
  few : l.from + length l.self.ends.items ≤ l.past;
}

abbrev pub decreases-loop-past : goal.decreases-loop-past
decreases-loop-past l = length l.cert - l.past
