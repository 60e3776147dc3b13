use Rattle.cap_model.proofs.Common.{length, ◌≡◌}
use Rattle.cap_model.specs.EdgesLeft.{edges_left}
use Rattle.cap_model.proofs.walk.EdgesIterator.next.Given as goal

abbrev pub invariant-loop-self : goal.invariant-loop-self
invariant-loop-self l = edges_left l.self ≡ edges_left l.fn.self

abbrev pub decreases-loop-self : goal.decreases-loop-self
decreases-loop-self l = length l.self.rows.now
