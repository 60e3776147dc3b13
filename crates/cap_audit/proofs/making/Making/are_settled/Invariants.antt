use Rattle.cap_audit.proofs.Common.{Edge, Some, has, slice_get, true, ℕ, ◌<◌, ◌≡◌, ◌≢◌}
use Rattle.cap_audit.proofs.making.Making.are_settled.Given as goal

abbrev pub invariant-loop-edge : goal.invariant-loop-edge
invariant-loop-edge l = (k : ℕ) (d : Edge) → k < l.edge-index → slice_get l.edges k ≡ Some d → d.from ≢ d.to
    → has l.self.edges d ≡ true
