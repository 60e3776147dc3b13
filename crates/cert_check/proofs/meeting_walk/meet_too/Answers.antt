use Rattle.cert_check.proofs.Walks.{alike_more, met_too}
use Rattle.cert_check.proofs.meeting_walk.meet_too.Goals as goal

pub returns : goal.returns
returns c = λ yes.
    met_too c.args.partners.now.ends.items c.args.last c.args.met c.loop-k.k c.requires.last c.requires.reach
    c.if-last-count.false c.loop-k-test.false
    (rw c.as_slice-ends.ensures.value at c.loop-k.invariant)

pub loop-k-preserved : goal.loop-k-preserved
loop-k-preserved c = alike_more c.as_slice-ends.result.now c.args.last.low c.args.met.low c.loop-k.k c.loop-k.invariant
    c.if-ends-last.false
