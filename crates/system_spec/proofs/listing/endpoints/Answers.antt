use Rattle.system_spec.proofs.Common.{[], endpoint, gather_turn, refl}
use Rattle.system_spec.proofs.listing.endpoints.Goals as goal

pub loop-number-preserved : goal.loop-number-preserved
loop-number-preserved c =
    gather_turn endpoint c.args.connections.now _ c.loop-number.number _ [] _ _ refl
    c.loop-number-test.true c.index-connections-number.is c.loop-number.invariant c.in_ok-push_endpoint.ensures
