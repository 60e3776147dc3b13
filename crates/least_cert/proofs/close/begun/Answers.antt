use Rattle.least_cert.proofs.Common.{AddsAll, Edge, List, has, subst, true, ◌≡◌}
use Rattle.least_cert.proofs.Holding.{are_held, are_links, begins_so, empty_sound, held_least, links_least}
use Rattle.least_cert.proofs.close.begun.Goals as goal

pub add_all-requires-clause-sound : goal.add_all-requires-clause-sound
add_all-requires-clause-sound c = empty_sound c.args.spec.now c.args.labels.now.by_object c.new-closing.result
    c.new-closing.ensures

pub add_all-requires-clause-least : goal.add_all-requires-clause-least
add_all-requires-clause-least c = λ e h.
    let nodes = c.in_ok-sources.sources.nodes.items in
    held_least c.args.spec.now c.args.labels.now.by_object c.new-closing.result c.new-closing.ensures nodes
    (are_held c.args.spec.now c.args.labels.now.by_object nodes c.in_ok-sources.ensures.nodes) e
    (subst (λ (xs : List Edge). has xs e ≡ true) c.as_slice-2.ensures.value h)

pub add_all-requires-2-clause-least : goal.add_all-requires-2-clause-least
add_all-requires-2-clause-least c = λ e h.
    let nodes = c.in_ok-sources.sources.nodes.items in
    links_least c.args.spec.now c.args.labels.now.by_object c.new-closing.result c.new-closing.ensures nodes
    c.in_ok-links.links.items c.add_all.new.self c.add_all.new.self
    (are_held c.args.spec.now c.args.labels.now.by_object nodes c.in_ok-sources.ensures.nodes)
    (are_links c.args.spec.now c.args.labels.now.by_object c.in_ok-sources.sources.others.items _ c.in_ok-sources.ensures.others
    (rw c.as_slice.ensures.value at c.in_ok-links.ensures))
    (subst (λ (xs : List Edge). AddsAll xs c.new-closing.result c.add_all.new.self) c.as_slice-2.ensures.value
    c.in_ok-add_all.ensures.added) e (subst (λ (xs : List Edge). has xs e ≡ true) c.as_slice-3.ensures.value h)

pub returns-clause-begun : goal.returns-clause-begun
returns-clause-begun c =
    let nodes = c.in_ok-sources.sources.nodes.items in
    begins_so c.args.spec.now c.args.labels.now.by_object c.new-closing.result c.new-closing.ensures nodes
    c.in_ok-links.links.items c.add_all.new.self c.add_all-2.new.self
    (are_held c.args.spec.now c.args.labels.now.by_object nodes c.in_ok-sources.ensures.nodes)
    (are_links c.args.spec.now c.args.labels.now.by_object c.in_ok-sources.sources.others.items _ c.in_ok-sources.ensures.others
    (rw c.as_slice.ensures.value at c.in_ok-links.ensures))
    (subst (λ (xs : List Edge). AddsAll xs c.new-closing.result c.add_all.new.self) c.as_slice-2.ensures.value
    c.in_ok-add_all.ensures.added)
    (subst (λ (xs : List Edge). AddsAll xs c.add_all.new.self c.add_all-2.new.self) c.as_slice-3.ensures.value
    c.in_ok-add_all-2.ensures.added)
