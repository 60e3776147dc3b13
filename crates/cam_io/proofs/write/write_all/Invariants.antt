use Rattle.cam_io.proofs.Common.{IsOpen, [], appended, length, take, ◌-◌, ◌≡◌, ◌≤◌}
use Rattle.cam_io.proofs.write.write_all.Given as goal

abbrev pub invariant-loop-done : goal.invariant-loop-done
invariant-loop-done g l =
    let sink = g.O.Outputs.sink in
    let faults = g.O.Outputs.faults in
    record {
      within : l.done ≤ length l.bytes;
      so_far : sink l.out ≡ appended (sink l.fn.out) l.channel (take l.done l.bytes);
      open_still : IsOpen (sink l.out) l.channel;
      later : faults l.fn.out ≤ faults l.out;
      quiet : l.bytes ≡ [] → l.out ≡ l.fn.out;
    }

abbrev pub decreases-loop-done : goal.decreases-loop-done
decreases-loop-done g l = length l.bytes - l.done
