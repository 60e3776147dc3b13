use Rattle.text_commands.proofs.Common.{flat_map, have_line, take}
use Rattle.text_commands.proofs.lines.write_haves.Given as goal
use Rattle.cam_io.specs.Saying.{Says}

abbrev pub invariant-loop-edge : goal.invariant-loop-edge
invariant-loop-edge g l = Says l.fn.to (flat_map (have_line l.names) (take l.edge-index l.have)) l.to
