-- The one word left out that a word can be, by its length.
use Rattle.adl_lexer.proofs.Common.{Bool, List, ap, arith, bytes_eq, codes, false, is_left_out_word, length, ℕ, rules, ◌||◌, ◌∙◌, ◌≡◌}
use Rattle.std.proofs.Math.Bool.{or-false}
use Rattle.cam_base.proofs.Bytes.{other_length}

not_connector : (word : List ℕ) → (length word ≡ 9 → ⊥)
    → is_left_out_word word ≡ (bytes_eq word (codes "struct") || (bytes_eq word (codes "enum") || false))
not_connector word n = ap (λ (b : Bool). b || (bytes_eq word (codes "struct") || (bytes_eq word (codes "enum") || false)))
    (other_length word (codes "connector") n)

not_struct : (word : List ℕ) (b : Bool) → (length word ≡ 6 → ⊥) → (bytes_eq word (codes "struct") || b) ≡ b
not_struct word b n = ap (λ (c : Bool). c || b) (other_length word (codes "struct") n)

not_enum : (word : List ℕ) → (length word ≡ 4 → ⊥) → (bytes_eq word (codes "enum") || false) ≡ false
not_enum word n = ap (λ (b : Bool). b || false) (other_length word (codes "enum") n)

pub of_nine : (word : List ℕ) → length word ≡ 9 → is_left_out_word word ≡ bytes_eq word (codes "connector")
of_nine word h = search (rules, not_struct, not_enum, or-false)

pub of_six : (word : List ℕ) → length word ≡ 6 → is_left_out_word word ≡ bytes_eq word (codes "struct")
of_six word h = search (rules, not_connector, not_enum, or-false)

pub of_four : (word : List ℕ) → length word ≡ 4 → is_left_out_word word ≡ bytes_eq word (codes "enum")
of_four word h = search (rules, not_connector, not_struct, or-false)

pub of_another : (word : List ℕ) → (length word ≡ 9 → ⊥) → (length word ≡ 6 → ⊥) → (length word ≡ 4 → ⊥)
    → is_left_out_word word ≡ false
of_another word nine six four = not_connector word nine ∙ not_struct word (bytes_eq word (codes "enum") || false) six
    ∙ not_enum word four

pub ruleset by_length = (of_nine, of_six, of_four, of_another)
