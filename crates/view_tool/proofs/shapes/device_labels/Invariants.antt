use Rattle.view_tool.proofs.PageCommon.{device_label, flat_map, take, ◌≡◌}
use Rattle.view_tool.proofs.shapes.device_labels.Given as goal

abbrev pub invariant-loop-leaf : goal.invariant-loop-leaf
invariant-loop-leaf l = l.texts ≡ flat_map device_label (take l.leaf-index l.leaf-items)
