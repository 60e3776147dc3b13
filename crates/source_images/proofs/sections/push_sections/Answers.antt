use Rattle.source_images.proofs.Common.{[], gather_turn, placed, sections_told, ◌∷◌}
use Rattle.source_images.proofs.SectionsTold.{told_push}
use Rattle.source_images.proofs.sections.push_sections.Goals as goal

pub loop-place-preserved : goal.loop-place-preserved
loop-place-preserved c =
    gather_turn (λ n section. placed c.args.number n section ∷ []) c.args.image.now.sections c.as_slice-section-items.result.now
    c.loop-place.place c.section-item.result
    (sections_told c.args.found.now.items) (sections_told c.loop-place.found.items) _ c.as_slice-section-items.ensures
    c.loop-place-test.true c.section-item.is c.loop-place.invariant
    (told_push _ _ _ c.in_ok-push.ensures.items)
