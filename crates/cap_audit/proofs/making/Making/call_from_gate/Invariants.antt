use Rattle.cap_audit.proofs.Common.{Below, Between, Gains, Place}
use Rattle.cap_audit.proofs.Gaining.{AtPlace}
use Rattle.cap_audit.proofs.making.Making.call_from_gate.Given as goal

abbrev pub invariant-loop-at : goal.invariant-loop-at
invariant-loop-at l =
    Gains (Below (AtPlace (λ (at : Place). Between l.initial.self.labels l.rosters at.node l.peer.node) l.gate) l.at-index)
    l.initial.self l.self
