use Rattle.cap_audit.proofs.Common.{Below, Greets, OfListening}
use Rattle.cap_audit.proofs.Gaining.{AtPlace}
use Rattle.cap_audit.proofs.making.Making.listen_all.Given as goal

abbrev pub invariant-loop-place : goal.invariant-loop-place
invariant-loop-place l =
    Greets l.company.rosters l.company.members
    (Below (AtPlace (OfListening l.initial.self.spec l.initial.self.labels l.initial.self.found l.initial.self.heads
    l.company.rosters l.company.members l.company.gates)
    l.initial.self.found.queue) l.place) l.initial.self l.self l.met
