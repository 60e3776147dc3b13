use Rattle.step_text.proofs.Common.{filter_map, first_fault_of, found_in, length, lines, lines_left, step_of, ◌++◌, ◌≡◌}
use Rattle.step_text.proofs.reader.read_steps.Given as goal

abbrev pub invariant-loop-line : goal.invariant-loop-line
invariant-loop-line l = record {
  faults : first_fault_of (found_in l.threads) (length l.steps) (lines_left l.line-iterator) ≡ first_fault_of (found_in l.threads)
      0 (lines l.bytes);
  steps : l.steps ++ filter_map (step_of (found_in l.threads)) (lines_left l.line-iterator) ≡ filter_map
      (step_of (found_in l.threads)) (lines l.bytes);
}
