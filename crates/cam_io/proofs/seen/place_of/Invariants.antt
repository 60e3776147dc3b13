use Rattle.cam_io.proofs.Common.{None, seen_of, take, ◌≡◌}
use Rattle.cam_io.proofs.seen.place_of.Given as goal

abbrev pub invariant-loop-i : goal.invariant-loop-i
invariant-loop-i l = seen_of (take l.i l.seen) l.name ≡ None
