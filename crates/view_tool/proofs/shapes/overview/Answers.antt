use Rattle.view_tool.proofs.PageCommon.{[], ap, gather_turn, get_or_default, kept_as, refl, ◌++◌, ◌∙◌, ◌∷◌}
use Rattle.view_text.specs.declared.shape.Shape.{Shape}
use Rattle.view_tool.proofs.shapes.overview.Goals as goal

pub loop-label-preserved : goal.loop-label-preserved
loop-label-preserved c =
    gather_turn (λ label (s : Shape). kept_as c.args.shapes.now c.args.edges.now label s ∷ []) c.args.shapes.now _
    c.loop-label.label _ [] _ _ refl
    c.loop-label-test.true (get_or_default _ _ _ _ c.loop-label-test.true) c.loop-label.invariant
    (c.in_ok-push.ensures.ok ∙ ap (λ s. c.loop-label.kept ++ s ∷ []) c.in_ok-kept_as.ensures)
