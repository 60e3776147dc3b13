use Rattle.arch_policy.proofs.Common.{FlatConnection, [], gather_turn, joined, rank, refl, ◌∷◌}
use Rattle.arch_policy.proofs.labels.connection_numbers.Goals as goal

pub loop-connection-preserved : goal.loop-connection-preserved
loop-connection-preserved c =
    gather_turn (λ d (x : FlatConnection). rank c.args.texts.now (joined x.path) ∷ []) c.args.connections.now _
    c.loop-connection.connection-index _ [] _ _ refl
    c.loop-connection-test.true c.connection-item.is c.loop-connection.invariant c.in_ok-push_number.ensures
