use Rattle.cap_audit.proofs.Common.{ArePlaces, Made, subst}
use Rattle.cap_audit.proofs.Meeting.{places_are}
use Rattle.cap_audit.proofs.making.Making.places.Goals as goal

pub returns : goal.returns
returns c =
    subst (λ (m : Made). ArePlaces m.found c.args.nodes.now c.args.value c.in_ok-places.places.items) c.self.view_is
    (places_are c.self.inside.findings.now c.args.nodes.now c.args.value c.in_ok-places.places.items c.in_ok-places.ensures)
