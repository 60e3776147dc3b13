use Rattle.source_commands.proofs.Listed.{front_listed, lines_differ}
use Rattle.source_commands.proofs.listing.list.Goals as goal

pub of-requires : goal.of-requires
of-requires g c =
    let f = c.in-Ok.front in
    let some = g.met.F.Files.some c.front.new.files in
    lines_differ f.source f.policy (c.in-Ok.ensures.front some.0 some.1).assigned

pub returns-in-Ok-clause-listed : goal.returns-in-Ok-clause-listed
returns-in-Ok-clause-listed g c m told =
    front_listed c.args.root.now m c.in-Ok.front c.of.result (c.in-Ok.ensures.front m told) c.of.ensures.names c.of.ensures.edges
