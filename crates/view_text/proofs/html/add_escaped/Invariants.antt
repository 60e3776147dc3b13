use Rattle.view_text.proofs.Common.{escaped_byte, flat_map, take, ◌++◌, ◌≡◌}
use Rattle.view_text.proofs.html.add_escaped.Given as goal

abbrev pub invariant-loop-byte : goal.invariant-loop-byte
invariant-loop-byte l = l.text ≡ l.fn.text ++ flat_map escaped_byte (take l.byte-index l.bytes)
