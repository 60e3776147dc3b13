-- The codes of members before and behind the interfaces.
use Rattle.std.specs.Prelude.{ℕ, List, [], ◌∷◌}
use Rattle.cam_base.specs.declared.token.Keyword.TheVariants as keys
use Rattle.adl_ast.specs.Codes.{key_code}

abbrev pub flag_codes : List ℕ
flag_codes = key_code keys.KControl ∷ key_code keys.KHardware ∷ key_code keys.KInclude ∷ []

abbrev pub body_codes : List ℕ
body_codes = key_code keys.KAttribute ∷ key_code keys.KHas ∷ key_code keys.KComposition ∷ key_code keys.KConfiguration ∷ []
