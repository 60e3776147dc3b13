use Rattle.cap_audit.proofs.Common.{Edge, Receive, arith, get_or, slice_get-get_or}
use Rattle.cap_audit.proofs.Gaining.{before_all, before_more, before_none, before_one}
use Rattle.cap_audit.proofs.making.Making.note_all.Goals as goal

no_edge : Edge
no_edge = record { from = 0; authority = Receive; to = 0 }

pub loop-edge-init : goal.loop-edge-init
loop-edge-init c = before_none c.args.edges.now c.args.self.now

pub loop-edge-preserved : goal.loop-edge-preserved
unfolding no_edge
loop-edge-preserved c =
    before_more c.args.edges.now c.loop-edge.edge-index c.args.self.now c.loop-edge.self c.note.new.self c.loop-edge.invariant
    (before_one c.args.edges.now c.loop-edge.edge-index (get_or c.args.edges.now c.loop-edge.edge-index no_edge) c.loop-edge.self
    c.note.new.self
    (slice_get-get_or c.args.edges.now c.loop-edge.edge-index no_edge c.loop-edge-test.true) c.in_ok-note.ensures)

pub returns : goal.returns
returns c = before_all c.args.edges.now c.loop-edge.edge-index c.args.self.now c.loop-edge.self (let t = c.loop-edge-test.false in
    omega arith) c.loop-edge.invariant
