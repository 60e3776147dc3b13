use Rattle.cap_audit.proofs.Common.{Below, Gains, OfCall}
use Rattle.cap_audit.proofs.Gaining.{AtPlace}
use Rattle.cap_audit.proofs.making.Making.call_from_each.Given as goal

abbrev pub invariant-loop-t : goal.invariant-loop-t
invariant-loop-t l = Gains (Below (AtPlace (OfCall l.initial.self.labels l.u l.peer.node) l.threads) l.t-index)
    l.initial.self l.self
