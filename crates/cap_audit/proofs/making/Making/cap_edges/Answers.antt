use Rattle.cap_audit.proofs.Common.{Adds, Made, OfCap, subst}
use Rattle.cap_audit.proofs.Gaining.{adds_only}
use Rattle.cap_audit.proofs.making.Making.cap_edges.Goals as goal

pub returns : goal.returns
returns c =
    adds_only (OfCap c.args.self.now.spec c.args.self.now.labels c.args.from c.args.cap.now) c.new.result.items
    c.in_ok-edges.edges.items c.new.ensures.items
    (subst (λ (x : Made). Adds (OfCap x.spec x.labels c.args.from c.args.cap.now) c.new.result.items c.in_ok-edges.edges.items)
    c.self.view_is c.in_ok-edges.ensures)
