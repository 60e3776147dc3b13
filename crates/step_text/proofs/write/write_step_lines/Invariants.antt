use Rattle.step_text.proofs.Common.{Says, flat_map, step_line, take}
use Rattle.step_text.proofs.write.write_step_lines.Given as goal

abbrev pub invariant-loop-step : goal.invariant-loop-step
invariant-loop-step g l = Says l.fn.to (flat_map (step_line l.spec) (take l.step-index l.steps)) l.to
