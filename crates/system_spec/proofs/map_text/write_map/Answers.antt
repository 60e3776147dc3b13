use Rattle.system_spec.proofs.Common.{DomainLine, arith, get_or, get_or_default, line_text, named, says_line, says_lines, says_nothing}
use Rattle.system_spec.proofs.map_text.write_map.Goals as goal

pub loop-line-init : goal.loop-line-init
loop-line-init g c = says_nothing

pub loop-line-preserved : goal.loop-line-preserved
loop-line-preserved g c = says_line (line_text (named c.args.names.now)) c.args.lines.now c.loop-line.line-index
    (get_or c.args.lines.now c.loop-line.line-index (DomainLine 0)) (omega arith) (get_or_default _ _ _ _ c.loop-line-test.true)
    c.loop-line.invariant c.write_line.ensures

pub returns : goal.returns
returns g c = says_lines (line_text (named c.args.names.now)) c.args.lines.now c.loop-line.line-index (omega arith)
    c.loop-line.invariant
