use Rattle.boot_plan.proofs.Common.{Entry, map, need, take, ◌≡◌}
use Rattle.boot_plan.proofs.need.needs.Given as goal

abbrev pub invariant-loop-entry : goal.invariant-loop-entry
invariant-loop-entry l = l.needs.items ≡ map (λ (e : Entry). need l.spec.arch e.object) (take l.entry-index l.spec.entries)
