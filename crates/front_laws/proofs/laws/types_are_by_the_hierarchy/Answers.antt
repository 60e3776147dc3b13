use Rattle.front_laws.proofs.TypesByHierarchy.{from_type_faults, in_type_faults}
use Rattle.front_laws.proofs.laws.types_are_by_the_hierarchy.Goals as goal

pub returns : goal.returns
returns c = λ s sound f. (from_type_faults s f, in_type_faults s sound f)
