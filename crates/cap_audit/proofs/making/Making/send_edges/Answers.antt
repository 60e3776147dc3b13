use Rattle.cap_audit.proofs.Common.{Adds, AsyncSend, Made, OfLink, subst}
use Rattle.cap_audit.proofs.Gaining.{link_only}
use Rattle.cap_audit.proofs.making.Making.send_edges.Goals as goal

pub returns : goal.returns
returns c =
    link_only c.args.self.now.labels c.args.from AsyncSend c.args.object c.new.result.items c.in_ok-edges.edges.items
    c.new.ensures.items
    (subst (λ (x : Made). Adds (OfLink x.labels c.args.from AsyncSend c.args.object) c.new.result.items c.in_ok-edges.edges.items)
    c.self.view_is c.in_ok-edges.ensures)
