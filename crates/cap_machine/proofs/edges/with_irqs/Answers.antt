use Rattle.cap_machine.proofs.Common.{AsyncSend, OfLink, OfOption, Option, label_of, ℕ}
use Rattle.cap_machine.proofs.Gathering.{first_more_at, all_first}
use Rattle.cap_machine.proofs.edges.with_irqs.Goals as goal

pub loop-place-preserved : goal.loop-place-preserved
loop-place-preserved c =
    first_more_at (λ d (bound : Option ℕ). OfOption (OfLink c.args.labels.now.by_object (label_of c.args.labels.now.by_object d)
    AsyncSend) bound) c.args.irqs.now c.loop-place.place _ _ _ _ c.loop-place-test.true c.loop-place.invariant
    (rw c.as_slice-from.ensures at c.in_ok-edges.ensures)

pub returns : goal.returns
returns c =
    all_first (λ d (bound : Option ℕ). OfOption (OfLink c.args.labels.now.by_object (label_of c.args.labels.now.by_object d)
    AsyncSend) bound) c.args.irqs.now c.loop-place.place _ _ c.loop-place-test.false c.loop-place.invariant
