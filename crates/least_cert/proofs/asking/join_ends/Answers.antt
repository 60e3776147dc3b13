use Rattle.least_cert.proofs.Asks.{control_back, control_there}
use Rattle.least_cert.proofs.asking.join_ends.Goals as goal

pub join-requires-clause-there : goal.join-requires-clause-there
join-requires-clause-there c = control_there c.args.closing.now c.requires.sound c.args.edge c.requires.least c.in-Control.is

pub join-requires-clause-back : goal.join-requires-clause-back
join-requires-clause-back c = control_back c.args.closing.now c.requires.sound c.args.edge c.requires.least c.in-Control.is
