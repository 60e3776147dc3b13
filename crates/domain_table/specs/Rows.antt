-- Rows of a table: the texts of their cells, and a row between bars, as Markdown has it.
use Rattle.std.specs.Prelude.{ℕ, List, [], ◌∷◌, ◌++◌, codes}
use Rattle.domain_table.specs.Below.{flat_map, together}

-- the texts of its cells
abbrev pub Row : Type 0
Row = List (List ℕ)

-- ` 0x1 |`
abbrev pub cell : List ℕ → List ℕ
cell text = together (codes " " ∷ text ∷ codes " |" ∷ [])

-- `| 0x1 | ep_0 | WP | 1 | c e k |`
abbrev pub row_line : Row → List ℕ
row_line cells = (codes "|" ++ flat_map cell cells) ++ codes "\n"
