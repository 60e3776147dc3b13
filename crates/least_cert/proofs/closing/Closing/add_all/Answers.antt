use Rattle.least_cert.proofs.Common.{arith, get_or, has_at, slice_get-get_or}
use Rattle.least_cert.proofs.Growth.{adds_all, adds_more, adds_none, least_moves, no_edge}
use Rattle.least_cert.proofs.closing.Closing.add_all.Goals as goal

pub loop-edge-init : goal.loop-edge-init
loop-edge-init c = adds_none c.args.edges.now c.args.self.now c.requires.sound

pub add-requires-clause-least : goal.add-requires-clause-least
add-requires-clause-least c =
    let e = get_or c.args.edges.now c.loop-edge.edge-index no_edge in
    least_moves c.args.self.now c.loop-edge.self c.loop-edge.invariant.grows.spec_is c.loop-edge.invariant.grows.labels_is e
    (c.requires.least e (has_at c.args.edges.now c.loop-edge.edge-index e
    (slice_get-get_or c.args.edges.now c.loop-edge.edge-index no_edge c.loop-edge-test.true)))

pub loop-edge-preserved : goal.loop-edge-preserved
loop-edge-preserved c =
    adds_more c.args.edges.now c.loop-edge.edge-index (get_or c.args.edges.now c.loop-edge.edge-index no_edge) c.args.self.now
    c.loop-edge.self c.add.new.self
    (slice_get-get_or c.args.edges.now c.loop-edge.edge-index no_edge c.loop-edge-test.true) c.loop-edge.invariant
    c.in_ok-add.ensures.added

pub returns-clause-added : goal.returns-clause-added
returns-clause-added c = adds_all c.args.edges.now c.loop-edge.edge-index c.args.self.now c.loop-edge.self
    (let t = c.loop-edge-test.false in omega arith) c.loop-edge.invariant
