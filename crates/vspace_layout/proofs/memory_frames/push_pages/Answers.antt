use Rattle.vspace_layout.proofs.Common.{None, OfConnection, [], ap, append_assoc, arith, frame, map, map-range_with_len_more, range_with_len, sym, ℕ, ◌++◌, ◌+◌, ◌∙◌, ◌∷◌, ◌≡◌}
use Rattle.vspace_layout.proofs.memory_frames.push_pages.Goals as goal

pub loop-page-preserved : goal.loop-page-preserved
loop-page-preserved c =
    let f = λ (j : ℕ). frame (OfConnection c.args.number) None None in
    let k = c.loop-page._page in
    let at : 0 + k ≡ k = omega arith in
    c.in_ok-push.ensures.ok ∙ ap (λ z. z ++ f k ∷ []) c.loop-page.invariant
    ∙ append_assoc c.args.frames.now (map f (range_with_len 0 k)) (f k ∷ [])
    ∙ ap (λ z. c.args.frames.now ++ z) (sym (map-range_with_len_more f 0 k k at))
