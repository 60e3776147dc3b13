use Rattle.cert_check.proofs.Common.{BreaksControl, Control, arith, has_at, length}
use Rattle.cert_check.proofs.FirstFound.{edge_found, edge_none}
use Rattle.cert_check.proofs.Search.{none_more, none_on}
use Rattle.cert_check.proofs.Violations.{first_of}
use Rattle.cert_check.proofs.copies.find_control.Goals as goal

pub control_at-requires : goal.control_at-requires
control_at-requires c = has_at c.args.cert.now c.in-Some.at c.in-Some.edge c.in-Some.ensures.found.there

pub returns-in-Some-control_at : goal.returns-in-Some-control_at
returns-in-Some-control_at c =
    edge_found c.args.cert.now (BreaksControl c.args.cert.now) (λ v p. p.there) c.in-Some.at c.in-Some.edge
    c.in-Some-control_at.found c.next_of.ensures.sorted c.in-Some.ensures.found.there
    (none_on (BreaksControl c.args.cert.now) first_of c.args.cert.now Control c.loop-at.next c.in-Some.at (λ v p. p.control)
    c.in-Some.ensures.found.others c.loop-at.invariant) c.in-Some-control_at.ensures

pub loop-at-preserved : goal.loop-at-preserved
loop-at-preserved c =
    none_more (BreaksControl c.args.cert.now) first_of c.args.cert.now c.in-Some.at c.in-Some.edge
    (none_on (BreaksControl c.args.cert.now) first_of c.args.cert.now Control c.loop-at.next c.in-Some.at (λ v p. p.control)
    c.in-Some.ensures.found.others c.loop-at.invariant) c.in-Some.ensures.found.there
    (λ v is p. c.in_default-control_at.ensures v (p, is))

pub returns : goal.returns
returns c =
    edge_none c.args.cert.now (BreaksControl c.args.cert.now) (λ v p. p.there) (length c.args.cert.now) (omega arith)
    (none_on (BreaksControl c.args.cert.now) first_of c.args.cert.now Control c.loop-at.next (length c.args.cert.now)
    (λ v p. p.control) c.in_default.ensures.none c.loop-at.invariant)
