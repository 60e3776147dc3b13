use Rattle.system_spec.proofs.Common.{Domain, DomainLine, [], arith, told, ◌∷◌}
use Rattle.system_spec.proofs.Turning.{place_turn}
use Rattle.system_spec.proofs.map_listing.push_domains.Goals as goal

pub loop-number-preserved : goal.loop-number-preserved
loop-number-preserved c =
    place_turn (λ d (x : Domain). DomainLine d ∷ []) (told c.args.tables.now).flat.domains c.loop-number.number
    c.args.lines.now _ _
    (omega arith) c.loop-number.invariant (λ x. c.in_ok-push.ensures.ok)
