use Rattle.adl_hierarchy.proofs.Common.{length}
use Rattle.adl_hierarchy.proofs.Through.{through_sound, through_complete}
use Rattle.adl_hierarchy.proofs.graph_laws.held_is_held.Goals as goal

pub returns : goal.returns
returns c = λ g r a b l. (through_sound g (length g) a b, λ h. through_complete g r h.0 a b l h.1)
