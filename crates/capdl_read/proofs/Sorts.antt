-- The codes of tokens, by their sorts.
use Rattle.capdl_read.proofs.Common.{List, [], arith, leb, length, nat_tests, refl, sees, token_code, ℕ, ◌∷◌, ◌≡◌, ◌≤◌, get_or, Bool, Lexeme}
use Rattle.cam_base.specs.Form.{among}
use Rattle.cam_base.specs.Reading.{starts}
use Rattle.capdl_text.specs.Codes.{kind_code, name_codes}
use Rattle.capdl_text.specs.Lexemes.{kind_with, sort_code, value_at}
use Rattle.capdl_text.specs.declared.token.Sort.{Sort}
use Rattle.capdl_text.specs.declared.token.Sort.TheVariants as sorts

pub code_with : (s : Sort) (n : ℕ) → kind_code (kind_with s n) ≡ sort_code s
code_with (sorts.Word word) n = refl
code_with sorts.Number n = refl
code_with sorts.Page n = refl
code_with sorts.Text n = refl
code_with (sorts.Mark mark) n = refl

pub name_code : (c : ℕ) → leb c 31 ≡ among name_codes c
name_code c = grind (arith, nat_tests)

-- the first of them is a word, which may be a name
pub name_starts : (bytes : List ℕ) (ls : List Lexeme) (d : Lexeme) (b : Bool) → 1 ≤ length ls
    → ((n : ℕ) → b ≡ among name_codes (kind_code (kind_with (get_or ls 0 d).sort n)))
    → b ≡ starts token_code name_codes (sees bytes ls)
name_starts bytes [] d b e h = absurd (omega arith)
name_starts bytes (l ∷ ls) d b e h = h (value_at bytes l.place)
