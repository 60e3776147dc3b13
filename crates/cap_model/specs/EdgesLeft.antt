-- The edges that are left to an iterator.
use Rattle.std.specs.Prelude.{List, ◌++◌, map}
use Rattle.cap_model.specs.Rows.{edge_to, reply_to, table_edges}
use Rattle.cap_model.specs.declared.edge.Edge.{Edge}
use Rattle.cap_model.specs.declared.walk.Edges.{Edges}

abbrev pub edges_left : Edges → List Edge
edges_left s =
    map (edge_to s.label) s.before.now
    ++ (map (reply_to s.label) s.replies.now ++ (map (edge_to s.label) s.behind.now ++ table_edges s.classes.now s.rows.now))
