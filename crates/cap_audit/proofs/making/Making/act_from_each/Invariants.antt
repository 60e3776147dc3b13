use Rattle.cap_audit.proofs.Common.{Below, Gains, OfDeed, OfSome, Pick}
use Rattle.cap_audit.proofs.Gaining.{AtPlace}
use Rattle.cap_audit.proofs.making.Making.act_from_each.Given as goal

abbrev pub invariant-loop-from : goal.invariant-loop-from
invariant-loop-from l =
    Gains
    (Below
    (AtPlace (λ (from : Pick). OfSome (λ (to : Pick). OfDeed l.initial.self.spec l.initial.self.labels l.deed from.cap
    to.cap) l.tos) l.froms) l.from-index) l.initial.self l.self
