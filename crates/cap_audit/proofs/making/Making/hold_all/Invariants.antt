use Rattle.cap_audit.proofs.Common.{Below, Gains, OfFace}
use Rattle.cap_audit.proofs.Gaining.{AtPlace}
use Rattle.cap_audit.proofs.making.Making.hold_all.Given as goal

abbrev pub invariant-loop-place : goal.invariant-loop-place
invariant-loop-place l =
    Gains (Below (AtPlace (OfFace l.initial.self.spec l.initial.self.labels l.initial.self.found l.initial.self.faces)
    l.initial.self.found.queue) l.place) l.initial.self l.self
