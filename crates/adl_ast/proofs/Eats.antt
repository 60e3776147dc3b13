-- What is repeated takes a token at least.
use Rattle.adl_ast.proofs.Common.{[], behind, composition_member_form, dot_word, end_form, ended_form, entry_form, instance_form, limit, mark_code, member_form, nested_line, nests, opens, param_form, proc_member_form, reads, refl, setting_form}
use Rattle.adl_ast.proofs.Common.{token_code, value_form, ℕ, ◌∷◌}
use Rattle.cam_base.specs.declared.token.Mark.TheVariants as marks
use Rattle.cam_base.proofs.Loops.{Eats, behind_eats, eats}
use Rattle.adl_ast.proofs.Decides.{nested_is, next_value_decides, next_entry_decides, instance_decides, end_decides, dot_word_decides, composition_member_decides, setting_decides, param_decides, proc_member_decides}
use Rattle.adl_ast.proofs.Decides.{member_decides, ended_decides}

pub next_value_eats : (room : ℕ) → Eats (nests room (behind (mark_code marks.Comma) value_form))
next_value_eats room = eats token_code nested_line opens nested_is room (behind (mark_code marks.Comma) value_form)
    next_value_decides refl

pub next_entry_eats : (room : ℕ) → Eats (nests room (behind (mark_code marks.Comma) entry_form))
next_entry_eats room = eats token_code nested_line opens nested_is room (behind (mark_code marks.Comma) entry_form)
    next_entry_decides refl

pub instance_eats : Eats (reads instance_form)
instance_eats = eats token_code nested_line opens nested_is limit instance_form instance_decides refl

pub end_eats : Eats (reads end_form)
end_eats = eats token_code nested_line opens nested_is limit end_form end_decides refl

pub dot_word_eats : Eats (reads dot_word)
dot_word_eats = eats token_code nested_line opens nested_is limit dot_word dot_word_decides refl

pub composition_member_eats : Eats (reads composition_member_form)
composition_member_eats = eats token_code nested_line opens nested_is limit composition_member_form
    composition_member_decides refl

pub setting_eats : Eats (reads setting_form)
setting_eats = eats token_code nested_line opens nested_is limit setting_form setting_decides refl

pub param_eats : Eats (reads param_form)
param_eats = eats token_code nested_line opens nested_is limit param_form param_decides refl

pub proc_member_eats : Eats (reads proc_member_form)
proc_member_eats = eats token_code nested_line opens nested_is limit proc_member_form proc_member_decides refl

pub member_eats : Eats (reads member_form)
member_eats = eats token_code nested_line opens nested_is limit member_form member_decides refl

pub ended_eats : Eats (reads ended_form)
ended_eats = eats token_code nested_line opens nested_is limit ended_form ended_decides refl

pub next_param_eats : Eats (reads (behind (mark_code marks.Comma) param_form))
next_param_eats = behind_eats token_code (mark_code marks.Comma ∷ []) (reads param_form) param_eats
