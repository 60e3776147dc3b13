-- Edges as they are printed, by the names of labels.
use Rattle.std.specs.Prelude.{ℕ, ◌==◌, List, [], ◌∷◌, codes, if◌then◌else◌}
use Rattle.policy_text.specs.Below.{Edge, flat_map, label_name, text_of, together, unwrap_or}

-- labels, by number and name
abbrev pub LabelNames : Type 0
LabelNames = List (ℕ × List ℕ)

abbrev pub name_of : LabelNames → ℕ → List ℕ
name_of labels number = unwrap_or (label_name labels number) []

abbrev pub words_line : List ℕ → List ℕ → List ℕ → List ℕ → List ℕ
words_line word from authority to = together (word ∷ from ∷ codes " " ∷ authority ∷ codes " " ∷ to ∷ codes "\n" ∷ [])

-- `drv Read buf`, behind a word
abbrev pub edge_line : List ℕ → LabelNames → Edge → List ℕ
edge_line word labels e = words_line word (name_of labels e.from) (text_of e.authority) (name_of labels e.to)

-- the line of an edge between different labels, and nothing for one within a label
abbrev pub apart_line : LabelNames → Edge → List ℕ
apart_line labels e = if e.from == e.to then [] else edge_line [] labels e

abbrev pub apart_lines : LabelNames → List Edge → List ℕ
apart_lines labels = flat_map (apart_line labels)
