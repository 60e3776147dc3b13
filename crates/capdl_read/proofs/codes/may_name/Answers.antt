use Rattle.capdl_read.proofs.Common.{ap, leb, sym, ℕ, ◌∙◌}
use Rattle.capdl_read.proofs.Sorts.{code_with, name_code}
use Rattle.cam_base.specs.Form.{among}
use Rattle.capdl_text.specs.Codes.{name_codes}
use Rattle.capdl_text.specs.Lexemes.{sort_code}
use Rattle.capdl_read.proofs.codes.may_name.Goals as goal

pub returns : goal.returns
returns c = λ n. ap (λ (k : ℕ). leb k 31) c.sort_code.ensures ∙ name_code (sort_code c.args.sort)
    ∙ ap (λ (k : ℕ). among name_codes k) (sym (code_with c.args.sort n))
