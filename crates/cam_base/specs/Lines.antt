-- The lines of a text. A line feed ends each, which the last may lack. Empty lines and lines that begin with -- say
-- nothing.
use Rattle.std.specs.Prelude.{ℕ, ◌+◌, ◌==◌, ◌&&◌, Bool, true, false, not, List, [], ◌∷◌, length, filter}
use Rattle.cam_base.specs.Parts.{parts}

-- the bytes of a line feed, and of a dash
abbrev pub line_feed : ℕ
line_feed = 10

abbrev pub dash : ℕ
dash = 45

-- a line without its line feed, and the place of its first byte
pub record Line : Type 0 where
  pub first : ℕ
  pub text : List ℕ

-- the place behind its last byte
abbrev pub end_of : Line → ℕ
end_of line = line.first + length line.text

-- lines one behind another, from a place on
abbrev pub placed : ℕ → List (List ℕ) → List Line
placed at [] = []
placed at (text ∷ texts) = record { first = at; text = text } ∷ placed (at + (length text + 1)) texts

abbrev pub is_silent : List ℕ → Bool
is_silent [] = true
is_silent (a ∷ []) = false
is_silent (a ∷ b ∷ bs) = a == dash && b == dash

-- those of the lines that say something
abbrev pub telling : List Line → List Line
telling = filter (λ line. not (is_silent line.text))

-- the lines of a text that say something
abbrev pub lines : List ℕ → List Line
lines bytes = telling (placed 0 (parts line_feed bytes))
