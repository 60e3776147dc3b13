use Rattle.cam_base.proofs.Common.{length, ◌+◌, ◌-◌, ◌≡◌}
use Rattle.cam_base.specs.LinesLeft.{lines_left}
use Rattle.cam_base.proofs.line.LinesIterator.next.Given as goal

abbrev pub invariant-loop-self : goal.invariant-loop-self
invariant-loop-self l = lines_left l.self ≡ lines_left l.fn.self

abbrev pub decreases-loop-self : goal.decreases-loop-self
decreases-loop-self l = length l.self.bytes.now + 1 - l.self.at
