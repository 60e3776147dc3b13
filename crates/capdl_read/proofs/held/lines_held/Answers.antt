use Rattle.capdl_read.proofs.Common.{IrqLine, arith, irq_off, noted_each, spread_found, unknown, ◌∙◌}
use Rattle.capdl_read.proofs.Tables.{line_put}
use Rattle.capdl_read.proofs.held.lines_held.Goals as goal

pub loop-line-preserved : goal.loop-line-preserved
loop-line-preserved c = record {
  unknown = noted_each (λ (s : IrqLine). unknown (spread_found c.args.known.now) s.object) _ _ c.args.lines.now
      c.loop-line.line-index c.line-item.result (omega arith) c.line-item.is c.in_ok-place.ensures.unknown
      ∙ c.loop-line.invariant.unknown;
  kind = noted_each (λ (s : IrqLine). irq_off s.object (spread_found c.args.known.now s.object.name)) _ _ c.args.lines.now
      c.loop-line.line-index c.line-item.result (omega arith) c.line-item.is c.in_ok-place.ensures.kind
      ∙ c.loop-line.invariant.kind;
  said = line_put (spread_found c.args.known.now) _ c.loop-line.said.entries c.in_ok-place.place c.args.lines.now
      c.loop-line.line-index c.line-item.result (omega arith) c.line-item.is c.in_ok-place.ensures.place
      c.in_ok-insert.ensures.entries ∙ c.loop-line.invariant.said;
}
