use Rattle.source_images.proofs.Common.{merged, ◌≡◌}
use Rattle.source_images.proofs.merge.merge.Given as goal

abbrev pub invariant-loop-reading : goal.invariant-loop-reading
invariant-loop-reading l = l.merged ≡ merged l.yielded
