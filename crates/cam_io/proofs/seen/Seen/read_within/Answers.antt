use Rattle.cam_io.proofs.Common.{arith, common_steps, length, length-take, take, ◌+◌, ◌≤◌}
use Rattle.cam_io.proofs.Seeing.{learns_from, learns_wider}
use Rattle.cam_io.proofs.seen.Seen.read_within.Goals as goal

pub returns-in-Ok-clause-learns : goal.returns-in-Ok-clause-learns
returns-in-Ok-clause-learns c =
    let roomy = c.next_room.new.self in
    let now = c.read_on.new.self in
    let count = length roomy.bytes.items + length (take c.in_ok-room.room c.args.chunk.now) in
    let few : count ≤ c.args.limit + 1 =
    rw c.in_ok-room.ensures.bytes (grind (arith, common_steps, length-take, c.in_ok-room.ensures, c.requires)) in
    learns_wider c.args.self.now now count (c.args.limit + 1) few
    (learns_from c.args.self.now roomy now c.in_ok-room.ensures.extent c.in_ok-room.ensures.bytes count
    (c.read_on.ensures.learns (length roomy.bytes.items) (omega arith)))

pub returns-in-Err-clause-learns : goal.returns-in-Err-clause-learns
returns-in-Err-clause-learns c =
    let roomy = c.next_room.new.self in
    let now = c.read_on.new.self in
    let count = length roomy.bytes.items + length (take c.in_ok-room.room c.args.chunk.now) in
    let few : count ≤ c.args.limit + 1 =
    rw c.in_ok-room.ensures.bytes (grind (arith, common_steps, length-take, c.in_ok-room.ensures, c.requires)) in
    learns_wider c.args.self.now now count (c.args.limit + 1) few
    (learns_from c.args.self.now roomy now c.in_ok-room.ensures.extent c.in_ok-room.ensures.bytes count
    (c.read_on.ensures.learns (length roomy.bytes.items) (omega arith)))
