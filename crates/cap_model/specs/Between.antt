-- The edges of a list from one up to another.
use Rattle.std.specs.Prelude.{◌≡◌, true, List}
use Rattle.cap_model.specs.Edges.{AtMost}
use Rattle.cap_model.specs.Tables.{has}
use Rattle.cap_model.specs.declared.edge.Edge.{Edge}

pub record IsBetween (edges : List Edge) (first : Edge) (last : Edge) (e : Edge) : Type 0 where
  pub there : has edges e ≡ true
  pub above : AtMost first e
  pub below : AtMost e last
