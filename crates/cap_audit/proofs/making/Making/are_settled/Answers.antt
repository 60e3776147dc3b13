use Rattle.cap_audit.proofs.Common.{arith, at_has, slice_get_within}
use Rattle.cap_audit.proofs.making.Making.are_settled.Goals as goal

pub returns : goal.returns
returns c = λ yes_all e h differ.
    let there = at_has c.args.edges.now e h in
    c.loop-edge.invariant there.0 e (let less = slice_get_within c.args.edges.now there.0 e there.1 in
    omega (arith, c.loop-edge-test.false)) there.1 differ
