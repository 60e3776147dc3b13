use Rattle.front_laws.proofs.ByHierarchy.{by_hierarchy}
use Rattle.front_laws.proofs.OneFlat.{one_flat}
use Rattle.front_laws.proofs.laws.flat_systems_are_by_the_hierarchy.Goals as goal

pub returns-clause-is : goal.returns-clause-is
returns-clause-is c = by_hierarchy

pub returns-clause-one : goal.returns-clause-one
returns-clause-one c = one_flat
