use Rattle.system_spec.proofs.Common.{IsPartitionPoint, IsPartitionPoint-from_clause, IsPartitionedBy-ltb, None, Page, Some, false, length, ltb, ltb-false, ltb-true, refl, rules, slice_get_past, slice_get_read, sym, true, ◌∙◌, ◌≡◌}
use Rattle.system_spec.proofs.Finding.{frame_elsewhere, frame_here, frame_read, rises_in_order}
use Rattle.system_spec.proofs.tcbs.frame_at.Goals as goal

pub returns-in_err-page : goal.returns-in_err-page
returns-in_err-page c =
    let ps = c.args.pages.now in
    let at = c.args.at in
    let i = c.partition_point-place.result in
    let point : IsPartitionPoint (λ (p : Page). ltb p.vaddr at ≡ true) (λ p. ltb p.vaddr at ≡ false) ps i =
    IsPartitionPoint-from_clause (λ (p : Page). ltb p.vaddr at) ps i c.partition_point-place.ensures.partitioned
    (IsPartitionedBy-ltb (λ (p : Page). p.vaddr) ps at (rises_in_order ps c.requires)) (λ a r f' k. search rules) in
    let past = ltb-false i (length ps) (sym c.in_err-page.ensures.lookup.0) in
    c.from_residual.ensures ∙ sym (frame_read at i ps c.requires point None (slice_get_past ps i past))

pub returns-then-page-at : goal.returns-then-page-at
returns-then-page-at c =
    let ps = c.args.pages.now in
    let at = c.args.at in
    let i = c.partition_point-place.result in
    let point : IsPartitionPoint (λ (p : Page). ltb p.vaddr at ≡ true) (λ p. ltb p.vaddr at ≡ false) ps i =
    IsPartitionPoint-from_clause (λ (p : Page). ltb p.vaddr at) ps i c.partition_point-place.ensures.partitioned
    (IsPartitionedBy-ltb (λ (p : Page). p.vaddr) ps at (rises_in_order ps c.requires)) (λ a r f' k. search rules) in
    let p = c.in_ok-page.page.now in
    let here = slice_get_read ps (length ps) i p refl (ltb-true i (length ps) (sym c.in_ok-page.ensures.lookup.0))
    c.in_ok-page.ensures.lookup.1 in
    sym (frame_read at i ps c.requires point (Some p) here ∙ frame_here at p c.if-page-at.true)

pub returns-else-page-at : goal.returns-else-page-at
returns-else-page-at c =
    let ps = c.args.pages.now in
    let at = c.args.at in
    let i = c.partition_point-place.result in
    let point : IsPartitionPoint (λ (p : Page). ltb p.vaddr at ≡ true) (λ p. ltb p.vaddr at ≡ false) ps i =
    IsPartitionPoint-from_clause (λ (p : Page). ltb p.vaddr at) ps i c.partition_point-place.ensures.partitioned
    (IsPartitionedBy-ltb (λ (p : Page). p.vaddr) ps at (rises_in_order ps c.requires)) (λ a r f' k. search rules) in
    let p = c.in_ok-page.page.now in
    let here = slice_get_read ps (length ps) i p refl (ltb-true i (length ps) (sym c.in_ok-page.ensures.lookup.0))
    c.in_ok-page.ensures.lookup.1 in
    sym (frame_read at i ps c.requires point (Some p) here ∙ frame_elsewhere at p c.if-page-at.false)
