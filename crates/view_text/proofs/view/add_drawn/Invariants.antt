use Rattle.view_text.proofs.Common.{drawn, map, take, ◌++◌, ◌≡◌}
use Rattle.view_text.proofs.view.add_drawn.Given as goal

abbrev pub invariant-loop-byte : goal.invariant-loop-byte
invariant-loop-byte l = l.text ≡ l.fn.text ++ map (drawn l.sign) (take l.byte-index l.bytes)
