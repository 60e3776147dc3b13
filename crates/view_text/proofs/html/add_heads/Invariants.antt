use Rattle.view_text.proofs.Common.{codes, flat_map, tagged, take, ◌++◌, ◌≡◌}
use Rattle.view_text.proofs.html.add_heads.Given as goal

abbrev pub invariant-loop-head : goal.invariant-loop-head
invariant-loop-head l = l.text ≡ l.fn.text ++ flat_map (λ h. tagged (codes "th") h.now) (take l.head-index l.heads)
