-- The codes of the tokens that a terminal allows.
use Rattle.std.specs.Prelude.{ℕ, Bool, true, false, List, [], ◌∷◌}
use Rattle.cam_base.specs.declared.token.Kind.{Kind}
use Rattle.cam_base.specs.declared.token.Kind.TheVariants as kinds
use Rattle.adl_ast.specs.Codes.{key_code, mark_code, number_code, text_code, angle_code, word_codes, void_code, buf_code, not_void_codes, not_buf_codes}
use Rattle.adl_parse.specs.declared.terminal.Terminal.{Terminal}
use Rattle.adl_parse.specs.declared.terminal.Terminal.TheVariants as terminals

abbrev pub codes_of : Terminal → List ℕ
codes_of (terminals.Key key) = key_code key ∷ []
codes_of (terminals.Mark mark) = mark_code mark ∷ []
codes_of terminals.Number = number_code ∷ []
codes_of terminals.Text = text_code ∷ []
codes_of terminals.Angle = angle_code ∷ []
codes_of terminals.Word = word_codes
codes_of terminals.Void = void_code ∷ []
codes_of terminals.NotVoid = not_void_codes
codes_of terminals.Buf = buf_code ∷ []
codes_of terminals.NotBuf = not_buf_codes

-- whether a token of this kind is a word that isn't a key word
abbrev pub is_word : Kind → Bool
is_word kinds.Word = true
is_word (kinds.Key key) = false
is_word (kinds.Number n) = false
is_word kinds.Text = false
is_word kinds.Angle = false
is_word (kinds.Mark mark) = false
