use Rattle.source_images.proofs.Common.{gather, is_run, sections_if, sections_told, take, ◌≡◌}
use Rattle.source_images.proofs.sections.sections_of.Given as goal

abbrev pub invariant-loop-number : goal.invariant-loop-number
invariant-loop-number l = sections_told l.found.items ≡ gather (λ m image. sections_if (is_run l.images l.leaves m) m image)
    (take l.number l.images.images)
