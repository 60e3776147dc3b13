use Rattle.vspace_layout.proofs.Common.{PortKey, drop, first_at, first_number, leads_by, map, option_or, position_from, take, ◌≡◌}
use Rattle.vspace_layout.proofs.ports.first_numbers.Given as goal

abbrev pub invariant-loop-number : goal.invariant-loop-number
invariant-loop-number l = record {
  ports : (k : PortKey) → option_or (first_at l.ports k) (position_from (leads_by k) l.number (drop l.number l.connections))
      ≡ position_from (leads_by k) 0 l.connections;
  firsts : l.firsts.items ≡ map (first_number l.connections) (take l.number l.connections);
}
