use Rattle.capdl_read.proofs.Common.{ap, token_code, ◌∙◌}
use Rattle.capdl_read.proofs.Sorts.{name_starts}
use Rattle.cam_base.specs.Reading.{starts}
use Rattle.capdl_text.specs.Codes.{name_codes}
use Rattle.capdl_read.proofs.cursor.Cursor.next_is_name.Goals as goal

pub returns-in-len1-up : goal.returns-in-len1-up
returns-in-len1-up c = name_starts c.self.inside.bytes.now c.self.inside.tokens.now _ c.may_name.result
    c.in-len1-up.len_at_least c.may_name.ensures ∙ ap (starts token_code name_codes) c.self.view_is
