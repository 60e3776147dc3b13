use Rattle.policy_text.proofs.Common.{Says, flat_map, label_line, take}
use Rattle.policy_text.proofs.write.write_labels.Given as goal

abbrev pub invariant-loop-label : goal.invariant-loop-label
invariant-loop-label g l = Says l.fn.to (flat_map label_line (take l.label-index l.labels)) l.to
