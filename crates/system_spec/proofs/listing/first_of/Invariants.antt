use Rattle.system_spec.proofs.Common.{List, Part, gather, length, take, ◌≡◌}
use Rattle.system_spec.proofs.listing.first_of.Given as goal

abbrev pub invariant-loop-section : goal.invariant-loop-section
invariant-loop-section l = l.first ≡ length (gather (λ k (x : List Part). x) (take l.section-index l.before))
