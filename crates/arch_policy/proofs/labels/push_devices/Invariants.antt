use Rattle.arch_policy.proofs.Common.{device_texts, drop, firsts, ◌++◌, ◌≡◌}
use Rattle.arch_policy.proofs.labels.push_devices.Given as goal

abbrev pub invariant-loop-leaf : goal.invariant-loop-leaf
invariant-loop-leaf l = firsts l.texts ++ device_texts (drop l.leaf-index l.leaves) ≡ firsts l.fn.texts ++ device_texts l.leaves
