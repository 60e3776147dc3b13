use Rattle.vspace_layout.proofs.Common.{ap, capped, codes, counted_by, free_apart, given_by, limit_over, page_counts, sum, sym, table_counts, ◌∙◌}
use Rattle.vspace_layout.proofs.Joining.{counted_same}
use Rattle.vspace_layout.proofs.Limits.{pages_over, pages_within}
use Rattle.vspace_layout.proofs.lay.lay_apart.Goals as goal

pub returns-in-Some-clause-faults : goal.returns-in-Some-clause-faults
returns-in-Some-clause-faults c =
    let t = given_by c.args.wiring.now c.args.images.now in
    let os = c.deref.ensures.value ∙ c.in_ok-outlines.ensures in
    let pages = c.in_ok-pages.ensures ∙ ap (λ z. capped (counted_by t.flat t.images z)) os ∙ ap capped (counted_same t) in
    pages_over t.source (sum (page_counts t)) (sum (table_counts t)) c.in-Some.fault c.source-source.ensures.within.assembly
    (sym (ap (λ n. limit_over t.source n (codes "pages")) pages)
    ∙ sym (c.in_ok-fault.ensures ∙ ap (λ s. limit_over s c.in_ok-pages.pages (codes "pages")) c.source-source.ensures.source)
    ∙ c.in-Some.is)

pub lay_few-requires-clause-apart : goal.lay_few-requires-clause-apart
lay_few-requires-clause-apart c = λ domain i. free_apart c.args.wiring.now.flat c.args.images.now c.requires.numbered
    c.requires.apart domain i c.requires.sound

pub lay_few-requires-clause-few : goal.lay_few-requires-clause-few
lay_few-requires-clause-few c =
    let t = given_by c.args.wiring.now c.args.images.now in
    let os = c.deref.ensures.value ∙ c.in_ok-outlines.ensures in
    let pages = c.in_ok-pages.ensures ∙ ap (λ z. capped (counted_by t.flat t.images z)) os ∙ ap capped (counted_same t) in
    pages_within t.source (sum (page_counts t)) c.source-source.ensures.within.assembly
    (sym (ap (λ n. limit_over t.source n (codes "pages")) pages)
    ∙ sym (c.in_ok-fault.ensures ∙ ap (λ s. limit_over s c.in_ok-pages.pages (codes "pages")) c.source-source.ensures.source)
    ∙ c.in_default.is)
