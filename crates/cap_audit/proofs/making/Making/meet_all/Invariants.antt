use Rattle.cap_audit.proofs.Common.{Below, Greets, OfKinds, Pair}
use Rattle.cap_audit.proofs.Gaining.{AtPlace}
use Rattle.cap_audit.proofs.making.Making.meet_all.Given as goal

abbrev pub invariant-loop-door : goal.invariant-loop-door
invariant-loop-door l =
    Greets l.company.rosters l.company.members
    (Below (AtPlace (λ (door : Pair). OfKinds l.initial.self.labels l.company.rosters l.company.members door.node
    l.pair.node) l.gate) l.door-index) l.initial.self l.self l.met
