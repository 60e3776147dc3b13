use Rattle.cspace_layout.proofs.Common.{domain_uses, drop, map, plan_of, ◌++◌, ◌≡◌}
use Rattle.cspace_layout.proofs.lay.lay_domains.Given as goal

abbrev pub invariant-loop-domain : goal.invariant-loop-domain
invariant-loop-domain l = l.domains
    ++ map (λ d. plan_of (domain_uses l.wiring.source l.wiring.flat d.leaves)) (drop l.domain-index l.wiring.flat.domains)
    ≡ map (λ d. plan_of (domain_uses l.wiring.source l.wiring.flat d.leaves)) l.wiring.flat.domains
