use Rattle.cap_model.proofs.laws.examples_are_written.Goals as goal
use Rattle.cap_model.proofs.Examples.{echo_written, driver_written, space_written, echo_kept, driver_kept, space_kept}

pub returns : goal.returns
returns c = record {
  echo = echo_written;
  driver = driver_written;
  space = space_written;
  kept = (echo_kept, driver_kept, space_kept);
}
