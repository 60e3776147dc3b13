use Rattle.least_cert.proofs.Growth.{gives_led}
use Rattle.least_cert.proofs.Leading.{flows_led}
use Rattle.least_cert.proofs.closing.Closing.give.Goals as goal

pub give_led-requires-clause-flows : goal.give_led-requires-clause-flows
give_led-requires-clause-flows c =
    rw (c.leader.ensures, c.leader-2.ensures) (flows_led c.args.self.now c.requires.sound c.args.giver c.args.taker
    c.requires.flows)

pub returns-clause-given : goal.returns-clause-given
returns-clause-given c = gives_led c.args.giver c.args.taker c.args.self.now c.give_led.new.self
    (rw (c.leader.ensures, c.leader-2.ensures) at c.in_ok-give_led.ensures.given)
