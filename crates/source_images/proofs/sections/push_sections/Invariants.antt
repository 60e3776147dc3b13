use Rattle.source_images.proofs.Common.{[], gather, placed, sections_told, take, ◌++◌, ◌∷◌, ◌≡◌}
use Rattle.source_images.proofs.sections.push_sections.Given as goal

abbrev pub invariant-loop-place : goal.invariant-loop-place
invariant-loop-place l = sections_told l.found.items ≡ sections_told l.fn.found.items
    ++ gather (λ n section. placed l.number n section ∷ []) (take l.place l.image.sections)
