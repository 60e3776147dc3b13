-- A hierarchy is finite where each instance has the number of a body, and no body holds itself, directly or through
-- others. Then no path goes on for ever.
use Rattle.adl_meaning.specs.Graph.{InRange, IsAcyclic}
use Rattle.adl_meaning.specs.Prelude.{Hierarchy, graph}

pub record IsFinite (h : Hierarchy) : Type 0 where
  pub range : InRange (graph h)
  pub acyclic : IsAcyclic (graph h)
