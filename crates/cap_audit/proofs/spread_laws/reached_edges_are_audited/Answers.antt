use Rattle.cap_audit.proofs.AuditedEdges.{reached_audited}
use Rattle.cap_audit.proofs.Reached.{audited_reached}
use Rattle.cap_audit.proofs.spread_laws.reached_edges_are_audited.Goals as goal

pub returns : goal.returns
returns c = λ spec labels kept none l a m. (reached_audited spec labels none l a m, audited_reached spec kept labels l a m)
