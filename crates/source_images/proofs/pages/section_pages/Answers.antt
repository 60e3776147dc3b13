use Rattle.source_images.proofs.Common.{ap, below, length, map, page_at, page_count, pages_of, placed_told, range_with_len, read_place, sections_of, sections_told, subst, sym, ◌++◌, ◌<◌, ◌∙◌}
use Rattle.source_images.proofs.InOrder.{name_is, ordered_at}
use Rattle.source_images.proofs.SectionsTold.{comes_from, told_turn}
use Rattle.source_images.proofs.pages.section_pages.Goals as goal

pub bounds-as_slice-placed : goal.bounds-as_slice-placed
bounds-as_slice-placed c =
    let images = c.args.images.now in
    let leaves = c.args.leaves.now in
    let p = c.placed-item.result in
    let told = ap sections_told c.as_slice-placed-items.ensures.value ∙ c.in_ok-sections.ensures in
    let i = ordered_at (sections_of images leaves) c.as_slice-placed-items.result.now c.loop-placed.placed-index p told
    c.loop-placed-test.true c.placed-item.is in
    let from = comes_from images leaves (placed_told p) i in
    subst (λ z. p.image < length z) (sym c.as_slice.ensures) (below images.images p.image from.image from.at)

pub push_pages-requires : goal.push_pages-requires
push_pages-requires c =
    let images = c.args.images.now in
    let leaves = c.args.leaves.now in
    let p = c.placed-item.result in
    let told = ap sections_told c.as_slice-placed-items.ensures.value ∙ c.in_ok-sections.ensures in
    c.requires.sound (placed_told p) (ordered_at (sections_of images leaves) c.as_slice-placed-items.result.now
    c.loop-placed.placed-index p told c.loop-placed-test.true c.placed-item.is)

pub loop-placed-preserved : goal.loop-placed-preserved
loop-placed-preserved c =
    let images = c.args.images.now in
    let all = sections_of images c.args.leaves.now in
    let ps = c.as_slice-placed-items.result.now in
    let k = c.loop-placed.placed-index in
    let p = c.placed-item.result in
    let image = c.index-as_slice-placed.result in
    let pages = c.loop-placed.pages in
    let told = ap sections_told c.as_slice-placed-items.ensures.value ∙ c.in_ok-sections.ensures in
    let from = comes_from images c.args.leaves.now (placed_told p) (ordered_at all ps k p told c.loop-placed-test.true
    c.placed-item.is) in
    let bound = subst (λ z. p.image < length z) (sym c.as_slice.ensures) (below images.images p.image from.image from.at) in
    let name = name_is images p.image image (read_place images.images c.as_slice.result.now p.image image c.as_slice.ensures bound
    c.index-as_slice-placed.is) in
    told_turn (pages_of images) ps k p pages c.push_pages.new.pages c.loop-placed-test.true c.placed-item.is
    (c.in_ok-push_pages.ensures ∙ ap (λ z. pages ++ map (page_at z p.section.now) (range_with_len 0 (page_count p.section.now)))
    name) ∙ c.loop-placed.invariant
