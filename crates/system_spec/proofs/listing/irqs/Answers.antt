use Rattle.system_spec.proofs.Common.{[], gather_turn, irq, refl}
use Rattle.system_spec.proofs.listing.irqs.Goals as goal

pub loop-number-preserved : goal.loop-number-preserved
loop-number-preserved c =
    gather_turn irq c.args.connections.now _ c.loop-number.number _ [] _ _ refl
    c.loop-number-test.true c.index-connections-number.is c.loop-number.invariant c.in_ok-push_irq.ensures
