use Rattle.cap_audit.proofs.Common.{Entry, cnode_count}
use Rattle.cap_audit.proofs.Counting.{Counted}
use Rattle.cap_audit.proofs.count.cnodes.Given as goal

abbrev pub invariant-loop-entry : goal.invariant-loop-entry
invariant-loop-entry l = Counted (λ (entry : Entry). cnode_count entry.object) l.spec.entries l.entry-index l.count
