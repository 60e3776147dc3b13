use Rattle.source_images.proofs.Common.{[], ap, append-nil, gather_turn, is_run, sections_if, sections_told, sym, ◌++◌, ◌∙◌}
use Rattle.source_images.proofs.sections.sections_of.Goals as goal
use Rattle.source_images.proofs.sections.sections_of.Goals.{then-is_run+in_ok-push_sections, else-is_run}

pub loop-number-preserved : goal.loop-number-preserved
loop-number-preserved c =
    let images = c.args.images.now in
    let leaves = c.args.leaves.now in
    let m = c.loop-number.number in
    let image = c.image-item.result in
    let old = sections_told c.loop-number.found.items in
    let turn = gather_turn (λ m image. sections_if (is_run images leaves m) m image) images.images
    c.as_slice-image-items.result.now m image [] old (sections_told c.if-is_run.found.items)
    c.as_slice-image-items.ensures c.loop-number-test.true c.image-item.is c.loop-number.invariant in
    turn (elim c.if-is_run.branch [
      | then-is_run+in_ok-push_sections w ↦ ap (λ v. sections_told v.items) w.found-is ∙ w.in_ok-push_sections.ensures
          ∙ ap (λ b. old ++ sections_if b m image) (sym w.if-is_run.true ∙ c.is_run.ensures)
      | else-is_run w ↦ ap (λ v. sections_told v.items) w.found-is ∙ sym (append-nil old) ∙ ap (λ b. old ++ sections_if b m image)
          (sym w.if-is_run.false ∙ c.is_run.ensures)
    ])
