use Rattle.system_spec.proofs.Common.{CNodeOf, Domain, OfDomain, [], arith, owned, ◌∷◌}
use Rattle.system_spec.proofs.Turning.{place_turn}
use Rattle.system_spec.proofs.listing.cnodes.Goals as goal

pub loop-number-preserved : goal.loop-number-preserved
loop-number-preserved c =
    place_turn (λ d (x : Domain). owned (OfDomain d) (CNodeOf d) ∷ []) c.args.domains.now c.loop-number.number [] _ _
    (omega arith) c.loop-number.invariant (λ x. c.in_ok-push.ensures.ok)
