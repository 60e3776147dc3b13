use Rattle.source_images.proofs.Common.{None, domain_faults, drop, flat_map, noted, space_faults, ◌≡◌}
use Rattle.source_images.proofs.faults.first_space_fault.Given as goal

abbrev pub invariant-loop-domain : goal.invariant-loop-domain
invariant-loop-domain l =
    noted l.first (flat_map (λ domain. domain_faults l.flat l.images domain.leaves) (drop l.domain-index l.flat.domains)) ≡ noted
    None (space_faults l.flat l.images)
