use Rattle.source_images.proofs.Common.{IsIn, ap, at_drop_all, domain_faults, flat_map, get_or, in_place, length, noted, noted-none, read_place, space_faults, subst, sym, ◌<◌, ◌∙◌, ◌≡◌, ◌≤◌}
use Rattle.std.proofs.lemmas.Result.{IfOk-weaker}
use Rattle.adl_meaning.proofs.Noting.{noted_each}
use Rattle.source_images.proofs.faults.first_space_fault.Goals as goal

pub note_domain-requires-clause-leaves : goal.note_domain-requires-clause-leaves
note_domain-requires-clause-leaves c = λ leaf i.
    let domains = c.args.flat.now.domains in
    let ys = c.as_slice-domain-items.result.now in
    let k = c.loop-domain.domain-index in
    let domain = c.domain-item.result in
    c.requires.listed domain (in_place domain domains k (read_place domains ys k domain c.as_slice-domain-items.ensures
    c.loop-domain-test.true c.domain-item.is)) leaf (subst (IsIn leaf) c.as_slice.ensures i)

pub loop-domain-preserved : goal.loop-domain-preserved
loop-domain-preserved c =
    let flat = c.args.flat.now in
    let images = c.args.images.now in
    let ys = c.as_slice-domain-items.result.now in
    let k = c.loop-domain.domain-index in
    let domain = c.domain-item.result in
    let same : ys ≡ flat.domains = c.as_slice-domain-items.ensures in
    noted_each (λ d. domain_faults flat images d.leaves) c.note_domain.new.first c.loop-domain.first flat.domains k domain
    (subst (λ z. k < length z) same c.loop-domain-test.true) (c.domain-item.is ∙ ap (λ z. get_or z k domain) same)
    (c.in_ok-note_domain.ensures ∙ ap (λ z. noted c.loop-domain.first (domain_faults flat images z)) c.as_slice.ensures)
    ∙ c.loop-domain.invariant

pub returns : goal.returns
returns c =
    let flat = c.args.flat.now in
    let images = c.args.images.now in
    let all = space_faults flat images in
    let behind : length flat.domains ≤ c.loop-domain.domain-index = subst (λ z. length z ≤ c.loop-domain.domain-index)
    c.as_slice-domain-items.ensures c.loop-domain-test.false in
    IfOk-weaker c.into_fault.result _ _ (λ f e. e ∙ sym (at_drop_all
    (λ z. noted c.loop-domain.first (flat_map (λ d. domain_faults flat images d.leaves) z))
    flat.domains c.loop-domain.domain-index behind)
    ∙ c.loop-domain.invariant ∙ noted-none all) c.into_fault.ensures
