use Rattle.adl_hierarchy.proofs.Through.{unheld}
use Rattle.adl_hierarchy.proofs.graph_laws.acyclic_is_unheld.Goals as goal

pub returns : goal.returns
returns c = unheld
