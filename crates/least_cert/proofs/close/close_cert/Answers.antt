use Rattle.least_cert.proofs.Finishing.{least_closed}
use Rattle.least_cert.proofs.close.close_cert.Goals as goal

pub certificate-requires : goal.certificate-requires
certificate-requires c = c.in_ok-close.ensures.closed.grows.sound

pub returns-clause-least : goal.returns-clause-least
returns-clause-least c =
    least_closed c.args.spec.now c.args.labels.now.by_object c.in_ok-closing.closing c.close.new.closing c.in_ok-table.table
    c.in_ok-closing.ensures.begun c.in_ok-close.ensures.closed c.in_ok-table.ensures.made
