use Rattle.policy_text.proofs.Common.{Says, flat_map, object_line, take}
use Rattle.policy_text.proofs.write.write_objects.Given as goal

abbrev pub invariant-loop-object : goal.invariant-loop-object
invariant-loop-object g l = Says l.fn.to (flat_map object_line (take l.object-index l.objects)) l.to
