-- Rows that are written one behind another, each ended by a line feed: the lines of the text, and what they say.
use Rattle.policy_text.proofs.Common.{All, Entry, Kind, Line, List, None, Some, Told, [], ap, append_assoc, entry_of, false, fields, flat_map, form_fault, is_silent, length, lines, map, option_or, placed, refl, slice_split, slice_split_at, telling}
use Rattle.policy_text.proofs.Common.{told, ℕ, ◌++◌, ◌+◌, ◌==◌, ◌∙◌, ◌∷◌, ◌≡◌}
use Rattle.policy_text.proofs.Before.{told-cons, form-cons, told_one}
use Rattle.policy_text.proofs.Judging.{form_some}

-- ---- rows

abbrev pub ended : List (List ℕ) → List ℕ
ended rows = flat_map (λ r. r ++ 10 ∷ []) rows

-- a row that holds no line feed, and isn't passed over
pub record IsRow (row : List ℕ) : Type 0 where
  pub whole : All (λ b. (b == 10) ≡ false) row
  pub tells : is_silent row ≡ false

abbrev pub AreRows : List (List ℕ) → Type 0
AreRows [] = Unit {0}
AreRows (r ∷ rs) = IsRow r × AreRows rs

parts-ended : (rows : List (List ℕ)) → AreRows rows → slice_split (λ b. b == 10) (ended rows) ≡ rows ++ [] ∷ []
parts-ended [] h = refl
parts-ended (r ∷ rs) h =
    ap (slice_split (λ b. b == 10)) (append_assoc r (10 ∷ []) (ended rs)) ∙ slice_split_at (λ b. b == 10) r 10 (ended rs)
    h.0.whole refl ∙ ap (λ ps. r ∷ ps) (parts-ended rs h.1)

telling-placed : (at : ℕ) (rows : List (List ℕ)) → AreRows rows → telling (placed at (rows ++ [] ∷ [])) ≡ placed at rows
telling-placed at [] h = refl
telling-placed at (r ∷ rs) h =
    rw h.0.tells (ap (λ (ls : List Line). record { first = at; text = r } ∷ ls) (telling-placed (at + (length r + 1)) rs h.1))

pub lines-ended : (rows : List (List ℕ)) → AreRows rows → lines (ended rows) ≡ placed 0 rows
lines-ended rows h = ap (λ ps. telling (placed 0 ps)) (parts-ended rows h) ∙ telling-placed 0 rows h

-- ---- rows with what they say

abbrev pub Item : Type 0
Item = List ℕ × Entry

abbrev pub rows_of : List Item → List (List ℕ)
rows_of items = map (λ i. i.0) items

abbrev pub line_at : ℕ → List ℕ → Line
line_at at row = record { first = at; text = row }

abbrev pub told_at : ℕ → List Item → List Told
told_at at [] = []
told_at at (i ∷ is) = (line_at at i.0, i.1) ∷ told_at (at + (length i.0 + 1)) is

abbrev pub Spells : Kind → List Item → Type 0
Spells kind [] = Unit {0}
Spells kind (i ∷ is) = (entry_of kind (fields i.0) ≡ Some i.1) × Spells kind is

pub told-rows : (kind : Kind) (at : ℕ) (items : List Item) → Spells kind items
    → told kind (placed at (rows_of items)) ≡ told_at at items
told-rows kind at [] s = refl
told-rows kind at (i ∷ is) s =
    told-cons kind (line_at at i.0) (placed (at + (length i.0 + 1)) (rows_of is))
    ∙ ap (λ ts. ts ++ told kind (placed (at + (length i.0 + 1)) (rows_of is))) (told_one kind (line_at at i.0) i.1 s.0)
    ∙ ap (λ (ts : List Told). (line_at at i.0, i.1) ∷ ts) (told-rows kind (at + (length i.0 + 1)) is s.1)

pub form-rows : (kind : Kind) (at : ℕ) (items : List Item) → Spells kind items
    → form_fault kind (placed at (rows_of items)) ≡ None
form-rows kind at [] s = refl
form-rows kind at (i ∷ is) s =
    form-cons kind (line_at at i.0) (placed (at + (length i.0 + 1)) (rows_of is))
    ∙ ap (λ o. option_or o (form_fault kind (placed (at + (length i.0 + 1)) (rows_of is))))
    (form_some kind (line_at at i.0) i.1 s.0)
    ∙ form-rows kind (at + (length i.0 + 1)) is s.1

-- ---- items one behind another

pub after : ℕ → List Item → ℕ
after at [] = at
after at (i ∷ is) = after (at + (length i.0 + 1)) is

pub told_at-append : (at : ℕ) (xs ys : List Item) → told_at at (xs ++ ys) ≡ told_at at xs ++ told_at (after at xs) ys
unfolding after
told_at-append at [] ys = refl
told_at-append at (x ∷ xs) ys = ap (λ (ts : List Told). (line_at at x.0, x.1) ∷ ts) (told_at-append (at + (length x.0 + 1)) xs ys)

pub spells-append : (kind : Kind) (xs ys : List Item) → Spells kind xs → Spells kind ys → Spells kind (xs ++ ys)
spells-append kind [] ys s t = t
spells-append kind (x ∷ xs) ys s t = (s.0, spells-append kind xs ys s.1 t)

pub rows-append : (xs ys : List Item) → AreRows (rows_of xs) → AreRows (rows_of ys) → AreRows (rows_of (xs ++ ys))
rows-append [] ys s t = t
rows-append (x ∷ xs) ys s t = (s.0, rows-append xs ys s.1 t)
