use Rattle.cam_io.proofs.Common.{arith, common_steps, length, length-append, length-take, ◌+◌, ◌≤◌}
use Rattle.cam_io.proofs.Seeing.{begun_learns}
use Rattle.cam_io.proofs.seen.Seen.read_on.Goals as goal

pub returns-in-Ok-extend_from_slice-clause-learns : goal.returns-in-Ok-extend_from_slice-clause-learns
returns-in-Ok-extend_from_slice-clause-learns c at behind =
    let count = at + length c.args.buf.now in
    let few : c.in-Ok.count ≤ length c.args.buf.now = grind (arith, common_steps, length-take, c.in-Ok.ensures) in
    let within : length c.extend_from_slice.new.self.items ≤ count =
    rw (c.in-Ok-extend_from_slice.ensures.items, length-append, length-take) (omega (arith, few, behind)) in
    begun_learns c.args.self.now.extent c.args.self.now.bytes.items c.extend_from_slice.new.self.items count
    c.requires.begun within
