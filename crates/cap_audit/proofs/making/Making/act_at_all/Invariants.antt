use Rattle.cap_audit.proofs.Common.{Below, Gains, None, OfRoot, get_or, ℕ}
use Rattle.cap_audit.proofs.making.Making.act_at_all.Given as goal

abbrev pub invariant-loop-c : goal.invariant-loop-c
invariant-loop-c l =
    Gains (Below (λ (c : ℕ). OfRoot l.initial.self.spec l.initial.self.labels l.initial.self.found l.deed
    (get_or l.roots c None) c) l.c) l.initial.self l.self
