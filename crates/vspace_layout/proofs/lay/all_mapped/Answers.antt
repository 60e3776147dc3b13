use Rattle.vspace_layout.proofs.Common.{AreApart, AreFew, Domain, List, Outline, [], ap, arith, gather_turn, get_or, get_or_from_slice_get, in_place, length, mapped_of, no_outline, read_in, read_place, refl, subst, sym, ◌++◌, ◌<◌, ◌∙◌, ◌∷◌, ◌≡◌}
use Rattle.vspace_layout.proofs.lay.all_mapped.Goals as goal

pub mapped_of-requires-clause-apart : goal.mapped_of-requires-clause-apart
mapped_of-requires-clause-apart c =
    let ds = c.args.wiring.now.flat.domains in
    let x = c.domain-item.result in
    let at = read_place ds c.domains-domain-items.result.now c.loop-number.number x c.domains-domain-items.ensures
    c.loop-number-test.true c.domain-item.is in
    subst (AreApart c.args.images.now) (sym c.as_slice.ensures) (c.requires.apart x (in_place x ds c.loop-number.number at))

pub mapped_of-requires-clause-few : goal.mapped_of-requires-clause-few
mapped_of-requires-clause-few c =
    let os = c.args.outlines.now in
    let o = c.index-outlines-number.result in
    let i = c.loop-number.number in
    let l : i < length os =
    omega (
      arith,
      c.loop-number-test.true,
      ap (λ (z : List Domain). length z) c.domains-domain-items.ensures,
      c.requires.outlined.each,
    ) in
    subst AreFew (sym c.as_slice-regions.ensures) (c.requires.outlined.few (get_or os i o) (read_in os i o l))

pub loop-number-preserved : goal.loop-number-preserved
loop-number-preserved c =
    let ds = c.args.wiring.now.flat.domains in
    let os = c.args.outlines.now in
    let settled = c.args.wiring.now.settled in
    let images = c.args.images.now in
    let x = c.domain-item.result in
    let o = c.index-outlines-number.result in
    let i = c.loop-number.number in
    let l : i < length os =
    omega (
      arith,
      c.loop-number-test.true,
      ap (λ (z : List Domain). length z) c.domains-domain-items.ensures,
      c.requires.outlined.each,
    ) in
    let same : get_or os i o ≡ get_or os i no_outline =
    sym c.index-outlines-number.is
    ∙ sym (get_or_from_slice_get os i o no_outline (read_place os os i o refl l c.index-outlines-number.is)) in
    let made =
    c.in_ok-mapped_of.ensures ∙ ap (λ ls. mapped_of settled images ls c.as_slice-regions.result.now) c.as_slice.ensures
    ∙ ap (mapped_of settled images x.leaves) (c.as_slice-regions.ensures ∙ ap (λ (z : Outline). z.regions) same) in
    gather_turn (λ n (d : Domain). mapped_of settled images d.leaves (get_or os n no_outline).regions ∷ []) ds
    c.domains-domain-items.result.now i x [] c.loop-number.all.items _
    c.domains-domain-items.ensures c.loop-number-test.true c.domain-item.is c.loop-number.invariant (c.in_ok-push.ensures.items
    ∙ ap (λ z. c.loop-number.all.items ++ z ∷ []) made)
