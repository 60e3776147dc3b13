use Rattle.cap_audit.proofs.WaysMeeting.{meeting_leads, member_below, same_connects}
use Rattle.cap_audit.specs.declared.hubs.Side.TheVariants as sides
use Rattle.cap_audit.proofs.hubs.meet.Goals as goal

pub returns-then-from-to : goal.returns-then-from-to
returns-then-from-to c = same_connects c.args.spec.now c.args.web.now c.args.from.node c.args.to.node c.requires.web
    c.if-from-to.true

pub connect-requires-clause-way : goal.connect-requires-clause-way
connect-requires-clause-way c =
    rw c.course_of.ensures
    (meeting_leads c.args.spec.now c.args.web.now.findings c.requires.both.0 c.args.by c.args.from c.args.to
    c.requires.both.1 c.requires.both.2 c.if-from-to.false)

pub connect-requires-clause-from : goal.connect-requires-clause-from
connect-requires-clause-from c = member_below c.args.spec.now c.args.web.now.findings c.requires.both.0 c.args.by sides.Giving
    c.args.from c.requires.web.found c.requires.both.1
