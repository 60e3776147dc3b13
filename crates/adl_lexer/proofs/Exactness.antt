-- Forms of tokens are read exactly.
use Rattle.adl_lexer.proofs.Common.{Bytes, Exact, List, [], can_be_empty, class_of, decides, exact, false, first, flat, mark_bytes, refl, token_form, too_deep, true, ℕ, ◌∷◌, ◌≡◌}
use Rattle.cam_base.proofs.Depth.{IsRead-none}
use Rattle.adl_lexer.specs.TokenKinds.{word_line, number_line, hex_line, text_item, text_line, less_line, arrow_line, mark_line}

pub read_exact : {A : Type 0} (f : Bytes A) → decides [] f ≡ true → Exact class_of flat [] too_deep f
read_exact f d = exact class_of flat [] too_deep (IsRead-none class_of []) f d

pub token_exact : Exact class_of flat [] too_deep token_form
unfolding word_line number_line hex_line text_item text_line less_line arrow_line mark_line
token_exact = read_exact token_form refl

pub token_full : can_be_empty token_form ≡ false
token_full = refl

-- the classes of first bytes
abbrev pub token_first : List ℕ
token_first = 0 ∷ 1 ∷ 2 ∷ 3 ∷ 4 ∷ 11 ∷ 8 ∷ 9 ∷ mark_bytes

pub token_first_is : first [] token_form ≡ token_first
token_first_is = refl

pub number_exact : Exact class_of flat [] too_deep number_line
unfolding number_line hex_line
number_exact = read_exact number_line refl

pub number_full : can_be_empty number_line ≡ false
unfolding number_line
number_full = refl
