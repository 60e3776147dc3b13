use Rattle.cap_machine.proofs.Common.{Entry, boot_node, map, take, ◌≡◌}
use Rattle.cap_machine.proofs.boot_state.boot_nodes.Given as goal

abbrev pub invariant-loop-entry : goal.invariant-loop-entry
invariant-loop-entry l = l.nodes.items ≡ map (λ (e : Entry). boot_node e.object) (take l.entry-index l.entries)
