use Rattle.view_tool.proofs.PageCommon.{codes, flat_map, tagged, take, ◌++◌, ◌≡◌}
use Rattle.view_tool.proofs.matrix.add_heads.Given as goal

abbrev pub invariant-loop-column : goal.invariant-loop-column
invariant-loop-column l = l.text ≡ l.fn.text ++ flat_map (λ c. tagged (codes "th") c.1) (take l.column-index l.columns)
