-- Identifiers: a letter or an underscore, then letters, digits and underscores, 1 to 127 bytes.
use Rattle.std.specs.Prelude.{ℕ, Bool, false, ◌&&◌, ◌||◌, leb, List, [], ◌∷◌, length, if◌then◌else◌}
use Rattle.std.specs.List.{list_all}

abbrev pub is_letter : ℕ → Bool
is_letter b = (leb 97 b && leb b 122) || (leb 65 b && leb b 90) || (leb 95 b && leb b 95)

abbrev pub is_word_byte : ℕ → Bool
is_word_byte b = is_letter b || (leb 48 b && leb b 57)

abbrev pub is_name : List ℕ → Bool
is_name [] = false
is_name (b ∷ bs) = leb (length bs) 126 && (is_letter b && list_all is_word_byte bs)

-- a word of any length: a letter or an underscore, then letters, digits and underscores
abbrev pub is_word : List ℕ → Bool
is_word [] = false
is_word (b ∷ bs) = is_letter b && list_all is_word_byte bs

-- a word as a name; the words of a text are names, other bytes stand for _
abbrev pub named : List ℕ → List ℕ
named text = if is_name text then text else 95 ∷ []
