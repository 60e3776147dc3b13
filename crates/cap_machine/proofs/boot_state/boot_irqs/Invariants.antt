use Rattle.cap_machine.proofs.Common.{Entry, boot_irq, map, take, ◌≡◌}
use Rattle.cap_machine.proofs.boot_state.boot_irqs.Given as goal

abbrev pub invariant-loop-entry : goal.invariant-loop-entry
invariant-loop-entry l = l.irqs.items ≡ map (λ (e : Entry). boot_irq e.object) (take l.entry-index l.entries)
