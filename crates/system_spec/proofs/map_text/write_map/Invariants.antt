use Rattle.system_spec.proofs.Common.{Says, flat_map, line_text, named, take}
use Rattle.system_spec.proofs.map_text.write_map.Given as goal

abbrev pub invariant-loop-line : goal.invariant-loop-line
invariant-loop-line g l = Says l.fn.to (flat_map (line_text (named l.names)) (take l.line-index l.lines)) l.to
