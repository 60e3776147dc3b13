use Rattle.adl_hierarchy.proofs.Cycling.{exact}
use Rattle.adl_hierarchy.proofs.graph_laws.cycle_numbers_are_exact.Goals as goal

pub returns : goal.returns
returns c = exact
