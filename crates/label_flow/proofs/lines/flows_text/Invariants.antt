use Rattle.label_flow.proofs.Common.{AreLines, take}
use Rattle.label_flow.proofs.lines.flows_text.Given as goal

abbrev pub invariant-loop-label : goal.invariant-loop-label
invariant-loop-label l = AreLines l.policy.edges l.policy.labels (take l.label-index l.policy.labels) l.text
