-- Edges turned round, and edges whose labels are all below a number.
use Rattle.std.specs.Prelude.{◌<◌, ℕ, List}
use Rattle.std.specs.List.{Contains}
use Rattle.cap_model.specs.declared.edge.Edge.{Edge}

-- the same authority, from the label that the edge goes to: what passes by the edge from l to m passes by this one from m to l
abbrev pub turned : Edge → Edge
turned e = record { from = e.to; authority = e.authority; to = e.from }

pub record AreBelow (count : ℕ) (edges : List Edge) : Type 0 where
  pub ends : (e : Edge) → Contains edges e → (e.from < count) × (e.to < count)
