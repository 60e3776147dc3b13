use Rattle.std.proofs.Common.{rules}
use Rattle.cam_io.proofs.Saying.{said_all}
use Rattle.source_commands.proofs.listing.write_listing.Goals as goal

pub returns : goal.returns
returns g c =
    said_all c.new-to.ensures.channel c.new-to.ensures.said c.write_edges.ensures c.flush.ensures (search rules)
