use Rattle.least_cert.proofs.Growth.{joins_led}
use Rattle.least_cert.proofs.Leading.{flows_led}
use Rattle.least_cert.proofs.closing.Closing.join.Goals as goal

pub join_led-requires-clause-there : goal.join_led-requires-clause-there
join_led-requires-clause-there c = rw (c.leader.ensures, c.leader-2.ensures) (flows_led c.args.self.now c.requires.sound c.args.a
    c.args.b c.requires.there)

pub join_led-requires-clause-back : goal.join_led-requires-clause-back
join_led-requires-clause-back c = rw (c.leader.ensures, c.leader-2.ensures) (flows_led c.args.self.now c.requires.sound c.args.b
    c.args.a c.requires.back)

pub join_led-requires-clause-first : goal.join_led-requires-clause-first
join_led-requires-clause-first c = rw c.leader.ensures (c.requires.sound.flat c.args.a)

pub join_led-requires-clause-second : goal.join_led-requires-clause-second
join_led-requires-clause-second c = rw c.leader-2.ensures (c.requires.sound.flat c.args.b)

pub returns-clause-joined : goal.returns-clause-joined
returns-clause-joined c = joins_led c.args.a c.args.b c.args.self.now c.join_led.new.self
    (rw (c.leader.ensures, c.leader-2.ensures) at c.in_ok-join_led.ensures.joined)
