use Rattle.cam_io.proofs.Common.{None, lookup, take, ◌≡◌}
use Rattle.cam_io.proofs.named_file.place_of.Given as goal

abbrev pub invariant-loop-i : goal.invariant-loop-i
invariant-loop-i l = lookup (take l.i l.files) l.name ≡ None
