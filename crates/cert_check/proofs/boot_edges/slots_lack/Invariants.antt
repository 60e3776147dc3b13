use Rattle.cert_check.proofs.Common.{Finds, SlotsLack}
use Rattle.cert_check.proofs.boot_edges.slots_lack.Given as goal

abbrev pub invariant-loop-slot : goal.invariant-loop-slot
invariant-loop-slot l = Finds (SlotsLack l.spec l.labels.by_object l.cert l.within l.from l.slots l.slot-index) l.best
