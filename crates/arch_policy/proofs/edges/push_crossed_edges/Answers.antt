use Rattle.arch_policy.proofs.Common.{FlatConnection, crossed_at, gather_turn, told}
use Rattle.arch_policy.proofs.edges.push_crossed_edges.Goals as goal

pub loop-connection-preserved : goal.loop-connection-preserved
loop-connection-preserved c =
    gather_turn (λ k (x : FlatConnection). crossed_at (told c.args.tables.now) c.args.connector c.args.authority x)
    c.args.tables.now.flat.now.connections _ c.loop-connection.connection-index _ c.args.edges.now _ _
    c.as_slice-connection-items.ensures
    c.loop-connection-test.true c.connection-item.is c.loop-connection.invariant c.in_ok-push_crossed_at.ensures
