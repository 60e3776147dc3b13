use Rattle.policy_text.proofs.Common.{Some, ap, meant}
use Rattle.policy_text.proofs.Taking.{adds_some, takes_label, takes_object, takes_edge}
use Rattle.policy_text.proofs.seen.Seen.add.Goals as goal

pub returns-in_ok-add-in-Label-clause-takes : goal.returns-in_ok-add-in-Label-clause-takes
returns-in_ok-add-in-Label-clause-takes c =
    takes_label c.args.self.now c.add.new.self c.add-in-Label.new.self c.args.text.now (meant c.args.entry)
    c.in-Label.number.text.now c.in-Label.name.now c.add-in-Label.result (ap meant c.in-Label.is)
    c.in_ok-add-in-Label.ensures c.add-in-Label.ensures

pub returns-in-Object-clause-takes : goal.returns-in-Object-clause-takes
returns-in-Object-clause-takes c =
    takes_object c.args.self.now c.add-in-Object.new.self c.args.text.now (meant c.args.entry) c.in-Object.word.now
    c.in-Object.number.text.now c.add-in-Object.result (ap meant c.in-Object.is) c.add-in-Object.ensures

pub returns-in-Some-clause-takes : goal.returns-in-Some-clause-takes
returns-in-Some-clause-takes c =
    takes_edge c.args.self.now (Some c.add-in-Some.new.self) c.args.text.now (meant c.args.entry) c.in-Edge.from.text.now
    c.in-Edge.authority c.in-Edge.to.text.now c.add-in-Some.result (ap meant c.in-Edge.is)
    (adds_some c.args.text.now c.args.self.now.edges c.in-Some.edges c.add-in-Some.new.self c.add-in-Some.result (cc)
    c.add-in-Some.ensures)
