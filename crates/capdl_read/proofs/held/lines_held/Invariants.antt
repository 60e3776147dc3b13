use Rattle.capdl_read.proofs.Common.{IrqLine, [], drop, flat_map, irq_off, lines_from, noted, spread_found, unknown, ◌≡◌}
use Rattle.capdl_read.proofs.held.lines_held.Given as goal

abbrev pub invariant-loop-line : goal.invariant-loop-line
invariant-loop-line l = record {
  unknown : noted l.faults.unknown (flat_map (λ (s : IrqLine). unknown (spread_found l.known) s.object)
      (drop l.line-index l.lines)) ≡ noted l.fn.faults.unknown
      (flat_map (λ (s : IrqLine). unknown (spread_found l.known) s.object) l.lines);
  kind : noted l.faults.kind (flat_map (λ (s : IrqLine). irq_off s.object (spread_found l.known s.object.name))
      (drop l.line-index l.lines)) ≡ noted l.fn.faults.kind
      (flat_map (λ (s : IrqLine). irq_off s.object (spread_found l.known s.object.name)) l.lines);
  said : lines_from (spread_found l.known) l.said.entries (drop l.line-index l.lines) ≡ lines_from
      (spread_found l.known) [] l.lines;
}
