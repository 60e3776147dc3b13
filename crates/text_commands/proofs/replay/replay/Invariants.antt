use Rattle.text_commands.proofs.Common.{FitsSpec, Run, boot, take, ◌≡◌}
use Rattle.text_commands.proofs.replay.replay.Given as goal

abbrev pub invariant-loop-place : goal.invariant-loop-place
invariant-loop-place l =
    record {
      run : Run l.spec (boot l.spec) (take l.place l.steps) l.state.state;
      applied : l.state.applied ≡ l.place;
      fits : FitsSpec l.spec l.state.state;
    }
