-- A fault's line, and where its bytes stand: the line, the column, the text of the line, and marks under them.
use Rattle.std.specs.Prelude.{ℕ, ◌-◌, ◌+◌, ◌==◌, nat_lt, leb, Bool, ◌&&◌, if◌then◌else◌, List, [], ◌∷◌, ◌++◌, codes, decimal, drop, fold, length, map, take, Option, Some, None}
use Rattle.std.specs.List.{before_first, after_first, position_or_len}
use Rattle.std.specs.Option.{option_and_then}
use Rattle.cam_base.specs.Numbers.{number_value}
use Rattle.cam_base.specs.Texts.{together}
use Rattle.view_text.specs.declared.place.Place.{Place}

-- ---- a line `FILE:FIRST-END: REST`

-- what stands before and behind the first such byte
abbrev pub cut : ℕ → List ℕ → Option (List ℕ × List ℕ)
cut c text =
    if nat_lt (position_or_len (λ b. b == c) text) (length text)
    then Some (before_first (λ b. b == c) text, after_first (λ b. b == c) text)
    else None

abbrev pub colon : ℕ
colon = 58

abbrev pub dash : ℕ
dash = 45

-- two numbers with a dash between
abbrev pub range_of : List ℕ → Option (ℕ × ℕ)
range_of text = option_and_then (λ x. option_and_then (λ first. option_and_then (λ end. Some (first, end)) (number_value x.1))
    (number_value x.0)) (cut dash text)

-- the file, the bytes from the first to the end, and what stands behind the place
abbrev pub spot_of : List ℕ → Option (List ℕ × ((ℕ × ℕ) × List ℕ))
spot_of line = option_and_then (λ x. option_and_then (λ y. option_and_then (λ r. Some (x.0, (r, y.1))) (range_of y.0))
    (cut colon x.1)) (cut colon line)

-- ---- where a byte stands in a file

-- the most bytes of a file
abbrev pub limit : ℕ
limit = 67108864

abbrev pub start : Place
start = record { line = 1; column = 1 }

-- the place behind a byte: a line feed leads to the next line's first column, any other byte to the next column
abbrev pub behind : Place → ℕ → Place
behind p b = if b == 10 then record { line = p.line + 1; column = 1 } else record { line = p.line; column = p.column + 1 }

-- the place behind these bytes
abbrev pub place_behind : List ℕ → Place
place_behind bytes = fold behind start bytes

-- what stands before the byte in its line
abbrev pub left_of : ℕ → List ℕ → List ℕ
left_of first bytes = drop (first - ((place_behind (take first bytes)).column - 1)) (take first bytes)

-- from it to the end of its line
abbrev pub right_of : ℕ → List ℕ → List ℕ
right_of first bytes = before_first (λ b. b == 10) (drop first bytes)

-- ---- what is shown

-- a tab under a tab, and else a sign
abbrev pub drawn : ℕ → ℕ → ℕ
drawn sign b = if b == 9 then 9 else sign

-- marks under these bytes, or one mark where there is none
abbrev pub marks : List ℕ → List ℕ
marks [] = codes "^"
marks (b ∷ bs) = map (drawn 94) (b ∷ bs)

-- `FILE:LINE:COLUMN:REST`
abbrev pub head_line : List ℕ → Place → List ℕ → List ℕ
head_line file p rest = together (file ∷ codes ":" ∷ decimal p.line ∷ codes ":" ∷ decimal p.column ∷ codes ":" ∷ rest
    ∷ codes "\n" ∷ [])

-- a line, and below it blanks and marks under a part of what stands on the right
abbrev pub with_line : List ℕ → List ℕ → List ℕ → ℕ → List ℕ
with_line head left right count =
    (((head ++ together (left ∷ right ∷ codes "\n" ∷ [])) ++ map (drawn 32) left) ++ marks (take count right)) ++ codes "\n"

abbrev pub view_of : List ℕ → (ℕ × ℕ) → List ℕ → List ℕ → List ℕ
view_of file range rest bytes =
    with_line (head_line file (place_behind (take range.0 bytes)) rest) (left_of range.0 bytes) (right_of range.0 bytes)
    (range.1 - range.0)

-- the bytes are some of the file's, or none at its end
abbrev pub stands_in : (ℕ × ℕ) → List ℕ → Bool
stands_in range bytes = leb range.0 range.1 && leb range.1 (length bytes)

-- ---- as editors read it

-- `FILE:LINE:COLUMN: error: REST`
abbrev pub error_line : List ℕ → Place → List ℕ → List ℕ
error_line file p rest = together (
    file ∷ codes ":" ∷ decimal p.line ∷ codes ":" ∷ decimal p.column ∷ codes ": error: " ∷ rest ∷ codes "\n" ∷ [])

-- of what stands at a byte of a file; what stands behind its end is told at its end
abbrev pub lint_line : List ℕ → ℕ → List ℕ → List ℕ → List ℕ
lint_line file first rest bytes = error_line file (place_behind (take first bytes)) rest
