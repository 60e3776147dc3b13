use Rattle.view_text.proofs.Common.{flat_map, quoted_byte, take, ◌≡◌}
use Rattle.view_text.proofs.graph.quoted.Given as goal

abbrev pub invariant-loop-byte : goal.invariant-loop-byte
invariant-loop-byte l = l.quoted ≡ flat_map quoted_byte (take l.byte-index l.text)
