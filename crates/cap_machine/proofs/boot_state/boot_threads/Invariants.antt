use Rattle.cap_machine.proofs.Common.{Entry, boot_thread, map, take, ◌≡◌}
use Rattle.cap_machine.proofs.boot_state.boot_threads.Given as goal

abbrev pub invariant-loop-entry : goal.invariant-loop-entry
invariant-loop-entry l = l.threads.items ≡ map (λ (e : Entry). boot_thread e.object) (take l.entry-index l.entries)
