use Rattle.cap_audit.proofs.Meeting.{greets_known, greets_new}
use Rattle.cap_audit.proofs.making.Making.meet.Goals as goal

pub returns-then-knows : goal.returns-then-knows
returns-then-knows c =
    greets_known c.args.company.now.rosters c.args.company.now.members c.args.self.now c.args.met.now
    c.requires.are_met c.args.door.node c.args.pair.node c.row.result.now c.requires.so_far
    c.row.ensures (c.knows.ensures c.if-knows.true)

pub returns : goal.returns
returns c =
    greets_new c.args.company.now.rosters c.args.company.now.members c.args.self.now c.args.met.now
    c.requires.are_met c.args.door.node c.args.pair.node c.call_kinds.new.self c.push.new.self
    c.in_ok-call_kinds.ensures c.in_ok-push.ensures
