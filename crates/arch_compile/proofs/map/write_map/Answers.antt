use Rattle.std.proofs.Common.{rules}
use Rattle.cam_io.proofs.Saying.{said_all}
use Rattle.arch_compile.proofs.map.write_map.Goals as goal

pub returns : goal.returns
returns g c =
    let lines = rw c.as_slice.ensures at c.write_map.ensures in
    said_all c.new-to.ensures.channel c.new-to.ensures.said lines c.flush.ensures (search rules)
