-- What stands in HTML: texts in which nothing is markup, and tables of such texts.
use Rattle.std.specs.Prelude.{◌≡◌, ℕ, ◌==◌, Bool, true, not, ◌||◌, if◌then◌else◌, List, [], ◌∷◌, ◌++◌, codes}
use Rattle.std.specs.List.{flat_map, list_all}
use Rattle.cam_base.specs.Texts.{together}

-- ---- texts

-- the bytes by which markup begins or ends: the two angle brackets, and the two quotes around a value
abbrev pub is_markup : ℕ → Bool
is_markup b = b == 60 || (b == 62 || (b == 34 || b == 39))

-- no byte of a text is one of them
abbrev pub IsPlain : List ℕ → Type 0
IsPlain text = list_all (λ b. not (is_markup b)) text ≡ true

-- one of them, or the sign before a name of a byte, by its name
abbrev pub escaped_byte : ℕ → List ℕ
escaped_byte b =
    if b == 38 then codes "&amp;"
    else if b == 60 then codes "&lt;"
    else if b == 62 then codes "&gt;"
    else if b == 34 then codes "&quot;"
    else if b == 39 then codes "&#39;"
    else b ∷ []

abbrev pub escaped : List ℕ → List ℕ
escaped text = flat_map escaped_byte text

-- `<td>a &lt; b</td>`
abbrev pub tagged : List ℕ → List ℕ → List ℕ
tagged tag text = (together (codes "<" ∷ tag ∷ codes ">" ∷ []) ++ escaped text) ++ together (codes "</" ∷ tag ∷ codes ">" ∷ [])

-- ---- tables

-- a row: its cells, each with the tag, one behind another
abbrev pub table_row : List ℕ → List (List ℕ) → List ℕ
table_row tag cells = (codes "<tr>" ++ flat_map (tagged tag) cells) ++ codes "</tr>\n"

-- a table: its title, the names of its columns, and its rows; one without rows isn't shown
abbrev pub whole_table : List ℕ → List (List ℕ) → List (List (List ℕ)) → List ℕ
whole_table title heads rows =
    (((codes "<table>\n" ++ tagged (codes "caption") title) ++ table_row (codes "th") heads)
    ++ flat_map (table_row (codes "td")) rows)
    ++ codes "</table>\n"

abbrev pub table_of : List ℕ → List (List ℕ) → List (List (List ℕ)) → List ℕ
table_of title heads [] = []
table_of title heads (r ∷ rs) = whole_table title heads (r ∷ rs)
