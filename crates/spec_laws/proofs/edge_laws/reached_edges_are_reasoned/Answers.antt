use Rattle.spec_laws.proofs.Common.{policy_tables, spec_of}
use Rattle.reach_laws.proofs.Reached.{exactly_reached}
use Rattle.spec_laws.proofs.Connections.{laid_out}
use Rattle.spec_laws.proofs.Whose.{labels}
use Rattle.spec_laws.proofs.edge_laws.reached_edges_are_reasoned.Goals as goal

pub returns : goal.returns
returns c = λ t h apart kept. exactly_reached (policy_tables t) (spec_of t) (labels t) h.flat apart (laid_out t h apart kept)
