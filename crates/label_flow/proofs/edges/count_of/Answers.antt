use Rattle.label_flow.proofs.Common.{Edge, Receive, arith}
use Rattle.label_flow.proofs.Listing.{below_more}
use Rattle.label_flow.proofs.edges.count_of.Goals as goal

pub loop-edge-preserved : goal.loop-edge-preserved
loop-edge-preserved c =
    let d : Edge = record { from = 0; authority = Receive; to = 0 } in
    let first = c.greater.ensures in
    let second = c.greater-count.ensures in (
      below_more c.args.edges.now c.loop-edge.edge-index c.loop-edge.count c.greater-count.result d c.loop-edge-test.true
          c.loop-edge.invariant.0 (omega (arith, first.kept, second.kept)) (omega (arith, first.more, second.kept)) second.more,
      omega (arith, c.loop-edge.invariant.1, first.kept, second.kept),
    )
