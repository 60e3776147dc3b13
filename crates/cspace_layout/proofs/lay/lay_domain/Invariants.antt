use Rattle.cspace_layout.proofs.Common.{domain_uses, drop, ◌++◌, ◌≡◌}
use Rattle.cspace_layout.proofs.lay.lay_domain.Given as goal

abbrev pub invariant-loop-leaf : goal.invariant-loop-leaf
invariant-loop-leaf l = l.uses ++ domain_uses l.wiring.source l.wiring.flat (drop l.leaf-index l.listed)
    ≡ domain_uses l.wiring.source l.wiring.flat l.listed
