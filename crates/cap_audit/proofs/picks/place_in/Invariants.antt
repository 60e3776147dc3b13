use Rattle.cap_audit.proofs.Common.{drop, place_in, ◌≡◌}
use Rattle.cap_audit.proofs.picks.place_in.Given as goal

abbrev pub invariant-loop-held : goal.invariant-loop-held
invariant-loop-held l = place_in l.node l.value l.helds ≡ place_in l.node l.value (drop l.held-index l.helds)
