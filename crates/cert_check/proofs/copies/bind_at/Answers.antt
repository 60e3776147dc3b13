use Rattle.cert_check.proofs.FirstFound.{bind_start, bind_found, bind_none}
use Rattle.cert_check.proofs.copies.bind_at.Goals as goal

pub loop-j-init : goal.loop-j-init
loop-j-init c = bind_start c.args.cert.now c.args.edge.now c.first_not_before-low.result
    (rw c.least_of.ensures at c.first_not_before-low.ensures.first)

pub returns-then-not-contains : goal.returns-then-not-contains
returns-then-not-contains c =
    bind_found c.args.cert.now c.args.edge.now c.loop-j.j c.in-Some.other c.first_not_before-low.ensures.sorted (cc) c.requires
    c.loop-j.invariant
    (c.is_of.ensures.0 c.if-not-is_of.false) (c.is_of-in-Some.ensures.0 c.if-is_of.true) c.if-other-edge.true
    c.if-other-edge-2.true (cc)

pub returns : goal.returns
returns c = bind_none c.args.cert.now c.args.edge.now c.first_not_before-high.result c.loop-j.j
    (rw c.least_of-2.ensures at c.first_not_before-high.ensures.first) c.loop-j-test.false c.loop-j.invariant
