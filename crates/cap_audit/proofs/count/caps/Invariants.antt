use Rattle.cap_audit.proofs.Common.{Entry, cap_count}
use Rattle.cap_audit.proofs.Counting.{Counted}
use Rattle.cap_audit.proofs.count.caps.Given as goal

abbrev pub invariant-loop-entry : goal.invariant-loop-entry
invariant-loop-entry l = Counted (λ (entry : Entry). cap_count entry.object) l.spec.entries l.entry-index l.count
