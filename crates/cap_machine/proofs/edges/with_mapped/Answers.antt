use Rattle.cap_machine.proofs.Common.{Mapped, OfAdded, arith}
use Rattle.cap_machine.proofs.Gathering.{first_more_at, all_first}
use Rattle.cap_machine.proofs.edges.with_mapped.Goals as goal

pub loop-added-preserved : goal.loop-added-preserved
loop-added-preserved c =
    first_more_at (λ place (added : Mapped). OfAdded c.args.labels.now.by_object added) c.args.mapped.now c.loop-added.added-index
    _ _ _ _ c.loop-added-test.true c.loop-added.invariant c.in_ok-edges.ensures

pub returns : goal.returns
returns c = all_first (λ place (added : Mapped). OfAdded c.args.labels.now.by_object added) c.args.mapped.now
    c.loop-added.added-index _ _ (let t = c.loop-added-test.false in omega arith) c.loop-added.invariant
