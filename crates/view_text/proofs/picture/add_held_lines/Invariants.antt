use Rattle.view_text.proofs.Common.{flat_map, held_line, take, ◌++◌, ◌≡◌}
use Rattle.view_text.proofs.picture.add_held_lines.Given as goal

abbrev pub invariant-loop-authority : goal.invariant-loop-authority
invariant-loop-authority l = l.text ≡ l.fn.text ++ flat_map (held_line l.edges l.from l.to) (take l.authority-index l.authorities)
