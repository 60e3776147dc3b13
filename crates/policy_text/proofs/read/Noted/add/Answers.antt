use Rattle.policy_text.proofs.Common.{ap, meant, refl, ◌∙◌}
use Rattle.policy_text.proofs.Judging.{notes_label, notes_object, notes_edge}
use Rattle.policy_text.proofs.read.Noted.add.Goals as goal

pub returns-in-Label : goal.returns-in-Label
returns-in-Label c =
    notes_label c.args.self.now c.add_number.new.self c.args.told c.in-Label.number.text.now c.in-Label.name.now
    c.add_number.result (ap meant c.in-Label.is) c.add_number.ensures.added
    c.add_number.ensures.near c.add_number.ensures.edges (ap (λ v. v.items) c.add_number.ensures.lines
    ∙ c.in_ok-push.ensures.items)

pub returns-in-Object : goal.returns-in-Object
returns-in-Object c = notes_object c.args.self.now _ c.args.told c.in-Object.word.now c.in-Object.number.text.now
    (ap meant c.in-Object.is) refl refl refl c.in_ok-push.ensures.items

pub returns-in-Edge : goal.returns-in-Edge
returns-in-Edge c =
    notes_edge c.args.self.now _ c.args.told c.in-Edge.from.text.now c.in-Edge.authority c.in-Edge.to.text.now
    (ap meant c.in-Edge.is) refl refl c.saturating_add-self.ensures c.in_ok-push.ensures.items
