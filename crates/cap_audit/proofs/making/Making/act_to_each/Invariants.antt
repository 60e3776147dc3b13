use Rattle.cap_audit.proofs.Common.{Below, Gains, OfDeed, Pick}
use Rattle.cap_audit.proofs.Gaining.{AtPlace}
use Rattle.cap_audit.proofs.making.Making.act_to_each.Given as goal

abbrev pub invariant-loop-to : goal.invariant-loop-to
invariant-loop-to l =
    Gains (Below (AtPlace (λ (to : Pick). OfDeed l.initial.self.spec l.initial.self.labels l.deed l.from.cap to.cap) l.tos)
    l.to-index) l.initial.self l.self
