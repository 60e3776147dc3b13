-- A policy as a graph in Graphviz's language: a node for each label, by its number and with its name, and an arrow for each
-- edge, with its authority and below it the lines of a note, where the edge has one.
--
--   digraph policy {
--   0 [label="c"];
--   1 [label="k"];
--   0 -> 1 [label="Call\lrule seL4RPCCall from\l"];
--   }
use Rattle.std.specs.Prelude.{ℕ, ◌==◌, if◌then◌else◌, List, [], ◌∷◌, ◌++◌, codes, decimal, slice_get}
use Rattle.std.specs.List.{flat_map}
use Rattle.std.specs.Option.{unwrap_or}
use Rattle.authorities.specs.Authorities.{text_of}
use Rattle.cap_model.specs.declared.edge.Edge.{Edge}
use Rattle.cap_model.specs.declared.policy.Policy.{Policy}
use Rattle.cam_base.specs.Texts.{together}
use Rattle.cam_base.specs.Gather.{gather}

-- a byte between quotes: a quote and a backslash have a backslash before them, and a line feed ends a line that stands at the
-- left
abbrev pub quoted_byte : ℕ → List ℕ
quoted_byte b = if b == 34 then codes "\\\"" else if b == 92 then codes "\\\\" else if b == 10 then codes "\\l" else b ∷ []

abbrev pub quoted : List ℕ → List ℕ
quoted text = flat_map quoted_byte text

-- `2 [label="drv"];`
abbrev pub node_line : ℕ × List ℕ → List ℕ
node_line l = together (decimal l.0 ∷ codes " [label=\"" ∷ quoted l.1 ∷ codes "\"];\n" ∷ [])

-- `2 -> 0 [label="Read\l"];`
abbrev pub arrow_line : List ℕ → Edge → List ℕ
arrow_line note e = together (
    decimal e.from ∷ codes " -> " ∷ decimal e.to ∷ codes " [label=\"" ∷ text_of e.authority ∷ codes "\\l" ∷ quoted note
    ∷ codes "\"];\n" ∷ [])

-- the note of the edge at this place, empty past the last note
abbrev pub note_at : List (List ℕ) → ℕ → List ℕ
note_at notes at = unwrap_or (slice_get notes at) []

abbrev pub arrow_lines : List (List ℕ) → List Edge → List ℕ
arrow_lines notes edges = gather (λ at e. arrow_line (note_at notes at) e) edges

abbrev pub graph_of : Policy → List (List ℕ) → List ℕ
graph_of policy notes = ((codes "digraph policy {\n" ++ flat_map node_line policy.labels) ++ arrow_lines notes policy.edges)
    ++ codes "}\n"
