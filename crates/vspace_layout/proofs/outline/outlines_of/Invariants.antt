use Rattle.vspace_layout.proofs.Common.{Domain, drop, map, outline, outlines, ◌++◌, ◌≡◌}
use Rattle.vspace_layout.proofs.outline.outlines_of.Given as goal

abbrev pub invariant-loop-domain : goal.invariant-loop-domain
invariant-loop-domain l = l.all.items
    ++ map (λ (d : Domain). outline l.wiring d.leaves)
    (drop l.domain-index l.wiring.flat.domains) ≡ outlines l.wiring
