use Rattle.system_spec.proofs.Common.{gather, line, take, told, ◌≡◌}
use Rattle.system_spec.proofs.irq_lines.gathered.Given as goal

abbrev pub invariant-loop-number : goal.invariant-loop-number
invariant-loop-number l = l.lines ≡ gather (line (told l.tables)) (take l.number l.tables.flat.now.connections)
