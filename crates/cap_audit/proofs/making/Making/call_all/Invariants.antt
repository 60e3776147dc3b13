use Rattle.cap_audit.proofs.Common.{Below, Between, Gains, OfSome, Place}
use Rattle.cap_audit.proofs.Gaining.{AtPlace}
use Rattle.cap_audit.proofs.making.Making.call_all.Given as goal

abbrev pub invariant-loop-peer : goal.invariant-loop-peer
invariant-loop-peer l =
    Gains
    (Below (AtPlace (λ (peer : Place). OfSome (λ (at : Place). Between l.initial.self.labels l.rosters at.node peer.node)
    l.callers) l.peers) l.peer-index) l.initial.self l.self
