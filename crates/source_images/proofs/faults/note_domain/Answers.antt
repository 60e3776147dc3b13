use Rattle.source_images.proofs.Common.{IsIn, ap, below, clashes, false, flat_map, get_or, leaf_faults, noted, sections_of, sections_told, subst, sym, ◌<◌, ◌∙◌, ◌≡◌}
use Rattle.source_images.proofs.Leaves.{same_tests}
use Rattle.source_images.proofs.SectionsTold.{comes_from}
use Rattle.source_images.proofs.faults.note_domain.Goals as goal

pub clashing-requires : goal.clashing-requires
clashing-requires c = λ x i.
    let images = c.args.images.now in
    let from =
    comes_from images c.args.leaves.now x (subst (IsIn x) (ap sections_told c.as_slice.ensures.value
    ∙ c.in_ok-sections.ensures) i) in
    subst (λ n. x.image < n) (sym c.len.ensures) (below images.images x.image from.image from.at)

pub returns : goal.returns
returns c =
    let images = c.args.images.now in
    let leaves = c.args.leaves.now in
    let all = sections_of images leaves in
    let told : sections_told c.as_slice.result.now ≡ all = ap sections_told c.as_slice.ensures.value ∙ c.in_ok-sections.ensures in
    subst
    (λ p. c.note_leaves.new.first ≡ noted c.args.first.now (flat_map (leaf_faults c.args.flat.now images p) leaves))
    (same_tests (λ m. get_or c.as_slice-2.result.now m false) (clashes all)
    (λ m. ap (λ z. get_or z m false) c.as_slice-2.ensures.value ∙ c.in_ok-clashing.ensures.marks m ∙ ap (λ z. clashes z m) told))
    c.note_leaves.ensures
