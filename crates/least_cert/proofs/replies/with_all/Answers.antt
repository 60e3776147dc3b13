use Rattle.least_cert.proofs.Common.{arith}
use Rattle.least_cert.proofs.Growth.{no_edge}
use Rattle.least_cert.proofs.Spreading.{put_all, put_more, put_none}
use Rattle.least_cert.proofs.replies.with_all.Goals as goal

pub loop-edge-init : goal.loop-edge-init
loop-edge-init c = put_none c.args.set c.args.edges.now

pub loop-edge-preserved : goal.loop-edge-preserved
loop-edge-preserved c = put_more c.args.set c.args.edges.now c.loop-edge.set c.insert.new.self c.loop-edge.edge-index no_edge
    c.loop-edge-test.true c.loop-edge.invariant c.in_ok-insert.ensures.has

pub returns : goal.returns
returns c = put_all c.args.set c.args.edges.now c.loop-edge.set c.loop-edge.edge-index (let t = c.loop-edge-test.false in
    omega arith) c.loop-edge.invariant
