use Rattle.cap_audit.proofs.Common.{[], replicate, ◌≡◌}
use Rattle.cap_audit.proofs.rows.Rows.new.Given as goal

abbrev pub invariant-loop : goal.invariant-loop
invariant-loop g l = l.rows.items ≡ replicate l.counter []
