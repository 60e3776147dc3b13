use Rattle.policy_text.proofs.Common.{arith, label_line, says_line, says_lines, says_nothing}
use Rattle.policy_text.proofs.write.write_labels.Goals as goal

pub loop-label-init : goal.loop-label-init
loop-label-init g c = says_nothing

pub loop-label-preserved : goal.loop-label-preserved
loop-label-preserved g c = says_line label_line c.args.labels.now c.loop-label.label-index c.label-item.result (omega arith)
    c.label-item.is c.loop-label.invariant c.write_label.ensures

pub returns : goal.returns
returns g c = says_lines label_line c.args.labels.now c.loop-label.label-index (omega arith) c.loop-label.invariant
