use Rattle.domain_table.proofs.Common.{map, take, ◌≡◌}
use Rattle.cam_base.specs.Paths.{joined}
use Rattle.domain_table.proofs.domain.domain_labels.Given as goal

abbrev pub invariant-loop-domain : goal.invariant-loop-domain
invariant-loop-domain l = l.labels ≡ map (λ x. joined x.path) (take l.domain-index l.domain-items)
