use Rattle.source_images.proofs.Common.{[], ap, append_assoc, arith, map, page_at, range_with_len, sym, ◌++◌, ◌+◌, ◌∙◌, ◌∷◌, ◌≡◌}
use Rattle.std.proofs.lemmas.List.FromFn.{map-range_with_len_more}
use Rattle.source_images.proofs.pages.push_pages.Goals as goal

pub loop-number-preserved : goal.loop-number-preserved
loop-number-preserved c =
    let f = page_at c.args.file.now c.args.section.now in
    let k = c.loop-number.number in
    let at : 0 + k ≡ k = omega arith in
    c.in_ok-push.ensures.ok ∙ ap (λ z. z ++ c.in_ok-page_at.field-0 ∷ []) c.loop-number.invariant ∙ append_assoc c.args.pages.now
    (map f (range_with_len 0 k)) (c.in_ok-page_at.field-0 ∷ [])
    ∙ ap (λ z. c.args.pages.now ++ z) (ap (λ z. map f (range_with_len 0 k) ++ z ∷ []) c.in_ok-page_at.ensures
    ∙ sym (map-range_with_len_more f 0 k k at))
