use Rattle.text_commands.proofs.Common.{arith, get_or_default, have_line, says_line, says_lines, says_nothing}
use Rattle.text_commands.proofs.lines.write_haves.Goals as goal

pub loop-edge-init : goal.loop-edge-init
loop-edge-init g c = says_nothing

pub loop-edge-preserved : goal.loop-edge-preserved
loop-edge-preserved g c = says_line (have_line c.args.names.now) c.args.have.now c.loop-edge.edge-index _ (omega arith)
    (get_or_default _ _ _ _ c.loop-edge-test.true) c.loop-edge.invariant c.write_have.ensures

pub returns : goal.returns
returns g c = says_lines (have_line c.args.names.now) c.args.have.now c.loop-edge.edge-index (omega arith) c.loop-edge.invariant
