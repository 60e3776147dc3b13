use Rattle.system_spec.proofs.Common.{OfDomain, ThreadOf, ThreadPlace, [], arith, owned, ◌∷◌}
use Rattle.system_spec.proofs.Turning.{place_turn}
use Rattle.system_spec.proofs.listing.push_threads.Goals as goal

pub loop-number-preserved : goal.loop-number-preserved
loop-number-preserved c =
    place_turn (λ i (x : ThreadPlace). owned (OfDomain c.args.domain) (ThreadOf c.args.domain i) ∷ []) c.args.threads.now
    c.loop-number.number c.args.items.now _ _
    (omega arith) c.loop-number.invariant (λ x. c.in_ok-push.ensures.ok)
