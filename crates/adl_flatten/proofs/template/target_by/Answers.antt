use Rattle.adl_flatten.proofs.TemplateCommon.{arith, sym, ◌∙◌}
use Rattle.adl_flatten.proofs.Bounds.{export_below}
use Rattle.adl_flatten.proofs.template.target_by.Goals as goal

pub overflow_add-result : goal.overflow_add-result
overflow_add-result c =
    let found = c.copied.ensures ∙ c.get.ensures ∙ (c.requires.inside.template c.index-all-at.result).targets c.args.name.now in
    let below = export_below c.args.program.now c.args.at.kind c.args.name.now _ _ found (sym c.flatten.ensures
    ∙ c.in_ok-leaf.was) in
    omega (arith, below, c.requires.inside.room)
