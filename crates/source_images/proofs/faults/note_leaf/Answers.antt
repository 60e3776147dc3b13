use Rattle.source_images.proofs.Common.{ap, false, get_or, noted, subst, sym, ◌≡◌}
use Rattle.source_images.proofs.Leaves.{leaf_noted}
use Rattle.source_images.proofs.faults.note_leaf.Goals as goal

pub returns : goal.returns
returns c =
    let clashing = c.args.clashing.now in
    let number = c.in-Some.number in
    let zs = c.as_slice-2.result.now in
    let bound = c.requires.numbered.runs c.args.leaf number (sym c.in-Some.ensures) in
    subst (λ fs. c.note_image.new.first ≡ noted c.args.first.now fs)
    (leaf_noted c.args.flat.now c.args.images.now (λ m. get_or clashing m false) c.args.leaf number c.sections_end-end.result
    c.arch.result c.index-as_slice-number.result (get_or zs c.args.leaf c.index-as_slice-leaf.result)
    c.as_slice.result.now zs c.as_slice.ensures bound c.index-as_slice-number.is c.as_slice-2.ensures c.requires.leaf
    (ap (λ d. get_or zs c.args.leaf d) c.index-as_slice-leaf.is) c.in-Some.ensures c.sections_end-end.ensures c.arch.ensures)
    c.note_image.ensures
