use Rattle.least_cert.proofs.Growth.{joins_same, joins_turned}
use Rattle.least_cert.proofs.closing.Closing.join_led.Goals as goal

pub returns-then-a-b-clause-joined : goal.returns-then-a-b-clause-joined
returns-then-a-b-clause-joined c = joins_same c.args.a c.args.b c.args.self.now c.requires.sound c.if-a-b.true

pub returns-then-members-clause-joined : goal.returns-then-members-clause-joined
returns-then-members-clause-joined c = joins_turned c.args.a c.args.b c.args.self.now c.merge.new.self
    c.in_ok-merge.ensures.joined
