use Rattle.cap_audit.proofs.Common.{Below, Gains, OfCall, OfSome, ℕ}
use Rattle.cap_audit.proofs.Gaining.{AtPlace}
use Rattle.cap_audit.proofs.making.Making.call_between.Given as goal

abbrev pub invariant-loop-u : goal.invariant-loop-u
invariant-loop-u l = Gains (Below (AtPlace (λ (u : ℕ). OfSome (OfCall l.initial.self.labels u l.peer.node) l.callers) l.peers)
    l.u-index) l.initial.self l.self
