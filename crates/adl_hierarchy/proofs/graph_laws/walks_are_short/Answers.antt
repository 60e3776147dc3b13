use Rattle.adl_hierarchy.proofs.Walks.{walks_short}
use Rattle.adl_hierarchy.proofs.graph_laws.walks_are_short.Goals as goal

pub returns : goal.returns
returns c = walks_short
