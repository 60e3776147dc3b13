-- A policy as a picture, in Graphviz's language: a node for each label, by its number and with its name, and one arrow for each
-- pair of labels, with all that the one may do to the other. A label may have a shape, by its number, or be left out.
--
--   digraph policy {
--   rankdir=LR;
--   node [fontname="sans-serif"];
--   edge [fontname="sans-serif", fontsize=11];
--   0 [label="c", shape=box, style=filled, fillcolor="#dbe9f6"];
--   1 [label="k", shape=ellipse];
--   0 -> 1 [label="SyncSend\lReset\lCall\l"];
--   }
use Rattle.std.specs.Prelude.{ℕ, ◌==◌, Bool, true, false, ◌&&◌, if◌then◌else◌, List, [], ◌∷◌, ◌++◌, codes, decimal, find, slice_get}
use Rattle.std.specs.List.{flat_map}
use Rattle.std.specs.Option.{option_map_or, unwrap_or}
use Rattle.authorities.specs.Authorities.{authorities, number_of, text_of}
use Rattle.cap_model.specs.Edges.{edge}
use Rattle.cap_model.specs.Tables.{has}
use Rattle.authorities.specs.declared.authority.Authority.{Authority}
use Rattle.cap_model.specs.declared.edge.Edge.{Edge}
use Rattle.cap_model.specs.declared.policy.Policy.{Policy}
use Rattle.cam_base.specs.Texts.{together}
use Rattle.cam_base.specs.Gather.{gather}
use Rattle.view_text.specs.Graphs.{quoted}
use Rattle.view_text.specs.declared.shape.Shape.{Shape}
use Rattle.view_text.specs.declared.shape.Shape.TheVariants.{Plain, Domain, Connection, Device, LeftOut}

-- ---- nodes

-- the shape of the label of this number, plain past the last shape
abbrev pub shape_at : List Shape → ℕ → Shape
shape_at shapes number = unwrap_or (slice_get shapes number) Plain

abbrev pub is_drawn : Shape → Bool
is_drawn Plain = true
is_drawn Domain = true
is_drawn Connection = true
is_drawn Device = true
is_drawn LeftOut = false

abbrev pub style_of : Shape → List ℕ
style_of Plain = []
style_of Domain = codes ", shape=box, style=filled, fillcolor=\"#dbe9f6\""
style_of Connection = codes ", shape=ellipse"
style_of Device = codes ", shape=hexagon, style=filled, fillcolor=\"#fbe6cf\""
style_of LeftOut = []

-- `2 [label="drv", shape=ellipse];`
abbrev pub shaped_line : Shape → ℕ × List ℕ → List ℕ
shaped_line shape l = together (decimal l.0 ∷ codes " [label=\"" ∷ quoted l.1 ∷ codes "\"" ∷ style_of shape ∷ codes "];\n" ∷ [])

abbrev pub node_of : Shape → ℕ × List ℕ → List ℕ
node_of shape l = if is_drawn shape then shaped_line shape l else []

-- ---- arrows

-- an authority that one label has over another, on a line that stands at the left
abbrev pub held_line : List Edge → ℕ → ℕ → Authority → List ℕ
held_line edges from to a = if has edges (edge from a to) then text_of a ++ codes "\\l" else []

-- all that it has, in the order of authorities
abbrev pub held_lines : List Edge → ℕ → ℕ → List ℕ
held_lines edges from to = flat_map (held_line edges from to) authorities

-- whether no edge of the same two labels has a lesser authority
abbrev pub is_first : List Edge → Edge → Bool
is_first edges e =
    option_map_or (λ a. number_of a == number_of e.authority) (find (λ a. has edges (edge e.from a e.to)) authorities) false

-- `2 -> 0 [label="Read\lWrite\l"];`
abbrev pub pair_line : List Edge → Edge → List ℕ
pair_line edges e = together (
    decimal e.from ∷ codes " -> " ∷ decimal e.to ∷ codes " [label=\"" ∷ held_lines edges e.from e.to ∷ codes "\"];\n" ∷ [])

abbrev pub both_drawn : List Shape → Edge → Bool
both_drawn shapes e = is_drawn (shape_at shapes e.from) && is_drawn (shape_at shapes e.to)

-- of an edge, where it is the first of its two labels and both are drawn
abbrev pub arrow_of : List Shape → List Edge → Edge → List ℕ
arrow_of shapes edges e = if both_drawn shapes e && is_first edges e then pair_line edges e else []

-- ---- all

abbrev pub picture_head : List ℕ
picture_head =
    codes "digraph policy {\nrankdir=LR;\nnode [fontname=\"sans-serif\"];\nedge [fontname=\"sans-serif\", fontsize=11];\n"

abbrev pub picture_of : Policy → List Shape → List ℕ
picture_of policy shapes =
    ((picture_head ++ flat_map (λ l. node_of (shape_at shapes l.0) l) policy.labels)
    ++ gather (λ at e. arrow_of shapes policy.edges e) policy.edges)
    ++ codes "}\n"
