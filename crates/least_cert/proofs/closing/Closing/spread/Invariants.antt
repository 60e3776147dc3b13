use Rattle.least_cert.proofs.Common.{Adds, OfFirst, filter_map, length, stays}
use Rattle.least_cert.proofs.Spreading.{copy_at}
use Rattle.least_cert.proofs.closing.Closing.spread.Given as goal

abbrev pub invariant-loop-label : goal.invariant-loop-label
invariant-loop-label l = Adds (OfFirst (copy_at l.self) l.self.leaders l.label) (filter_map (stays (length l.self.leaders))
    l.self.queue) l.edges.items
