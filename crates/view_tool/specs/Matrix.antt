-- Who may do what to whom: a row for each label that may do something, a column for each label to which something may be done,
-- and in each cell the authorities of the row's label over the column's, each with the lines of its first reason.
use Rattle.std.specs.Prelude.{ℕ, ◌==◌, Bool, if◌then◌else◌, List, [], ◌∷◌, ◌++◌, codes}
use Rattle.view_tool.specs.Below.{Edge, Policy, escaped, flat_map, gather, list_any, note_at, tagged, together, where_true}
use Rattle.authorities.specs.Authorities.{text_of}
use Rattle.authorities.specs.declared.authority.Authority.{Authority}
use Rattle.view_tool.specs.declared.matrix.Mark.{Mark}

-- an edge with a note
abbrev pub marked : Edge → List ℕ → Mark
marked e note = record { edge = e; note = note }

-- the edges with their notes, each by its place
abbrev pub mark_at : List (List ℕ) → ℕ → Edge → List Mark
mark_at notes at e = marked e (note_at notes at) ∷ []

abbrev pub marks_of : List (List ℕ) → List Edge → List Mark
marks_of notes edges = gather (mark_at notes) edges

abbrev pub authority_text : Authority → List ℕ
authority_text a = together (codes "\">" ∷ text_of a ∷ codes "</abbr> " ∷ [])

-- `<abbr title="rule seL4RPCCall from ..">Call</abbr> `
abbrev pub mark_text : Mark → List ℕ
mark_text m = (codes "<abbr title=\"" ++ escaped m.note) ++ authority_text m.edge.authority

abbrev pub mark_in : ℕ → Mark → List ℕ
mark_in to m = if m.edge.to == to then mark_text m else []

-- of a column, by the edges of the row
abbrev pub cell_text : List Mark → ℕ × List ℕ → List ℕ
cell_text row column = codes "<td>" ++ flat_map (mark_in column.0) row

abbrev pub row_text : List Mark → List (ℕ × List ℕ) → List ℕ → List ℕ
row_text row columns name = ((codes "<tr>" ++ tagged (codes "th") name) ++ flat_map (cell_text row) columns) ++ codes "</tr>\n"

-- the edges from a label
abbrev pub marks_from : List Mark → ℕ → List Mark
marks_from marks from = flat_map (λ m. where_true (m.edge.from == from) m) marks

-- of a label, where it has edges
abbrev pub some_row : List Mark → List (ℕ × List ℕ) → List ℕ → List ℕ
some_row [] columns name = []
some_row (m ∷ ms) columns name = row_text (m ∷ ms) columns name

abbrev pub label_row : List Mark → List (ℕ × List ℕ) → ℕ × List ℕ → List ℕ
label_row marks columns l = some_row (marks_from marks l.0) columns l.1

-- the labels to which something may be done
abbrev pub is_target : List Mark → ℕ → Bool
is_target marks label = list_any (λ m. m.edge.to == label) marks

abbrev pub targets : List Mark → List (ℕ × List ℕ) → List (ℕ × List ℕ)
targets marks labels = flat_map (λ l. where_true (is_target marks l.0) l) labels

abbrev pub matrix_head : List ℕ
matrix_head = codes "<table class=\"matrix\">\n<tr><td>"

-- with columns
abbrev pub matrix_by : List Mark → List (ℕ × List ℕ) → List (ℕ × List ℕ) → List ℕ
matrix_by marks columns labels =
    (((matrix_head ++ flat_map (λ c. tagged (codes "th") c.1) columns) ++ codes "</tr>\n")
    ++ flat_map (label_row marks columns) labels)
    ++ codes "</table>\n"

abbrev pub matrix_of : Policy → List (List ℕ) → List ℕ
matrix_of policy notes =
    matrix_by (marks_of notes policy.edges) (targets (marks_of notes policy.edges) policy.labels) policy.labels
