use Rattle.cert_check.proofs.Walks.{led_by}
use Rattle.cert_check.proofs.meetings.leads.Goals as goal

pub returns-in-Some : goal.returns-in-Some
returns-in-Some c = led_by c.args.rule c.args.cert.now c.args.label c.in-Some.least c.in-Grant.is c.in-Some.ensures
