use Rattle.view_tool.proofs.PageCommon.{[], gather, kept_as, take, ◌∷◌, ◌≡◌}
use Rattle.view_tool.proofs.shapes.overview.Given as goal

abbrev pub invariant-loop-label : goal.invariant-loop-label
invariant-loop-label l = l.kept ≡ gather (λ label s. kept_as l.shapes l.edges label s ∷ []) (take l.label l.shapes)
