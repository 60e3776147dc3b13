use Rattle.capdl_text.proofs.Common.{after_line, after_run, is_line_byte, length, ◌≡◌}
use Rattle.capdl_text.proofs.run.line_end.Given as goal

abbrev pub invariant-run : goal.invariant-run
invariant-run l = record {
  line : after_line l.rest ≡ after_line l.bytes;
  run : after_run is_line_byte l.rest ≡ after_run is_line_byte l.bytes;
}

abbrev pub decreases-run : goal.decreases-run
decreases-run l = length l.rest
