use Rattle.least_cert.proofs.Common.{Edge, has, subst, sym, true, ◌∙◌, ◌≡◌}
use Rattle.least_cert.proofs.Growth.{gives_joined, gives_known, gives_same}
use Rattle.least_cert.proofs.closing.Closing.give_led.Goals as goal

pub returns-then-giver-taker-clause-given : goal.returns-then-giver-taker-clause-given
returns-then-giver-taker-clause-given c = gives_same c.args.giver c.args.taker c.args.self.now c.requires.sound
    c.if-giver-taker.true

pub returns-then-is_given-clause-given : goal.returns-then-is_given-clause-given
returns-then-is_given-clause-given c =
    gives_known c.args.giver c.args.taker c.args.self.now c.requires.sound
    (subst (λ (x : Edge). has c.args.self.now.gives x ≡ true) c.edge_of.ensures.is (sym c.is_given.ensures
    ∙ c.if-is_given.true))

pub join-requires-clause-back : goal.join-requires-clause-back
join-requires-clause-back c =
    c.requires.sound.flows c.args.taker c.args.giver (subst (λ (x : Edge). has c.args.self.now.gives x ≡ true)
    c.edge_of-2.ensures.is (sym c.is_given-2.ensures ∙ c.if-is_given-2.true))

pub returns-then-is_given-2-clause-given : goal.returns-then-is_given-2-clause-given
returns-then-is_given-2-clause-given c = gives_joined c.args.giver c.args.taker c.args.self.now c.join.new.self
    c.in_ok-join.ensures.joined
