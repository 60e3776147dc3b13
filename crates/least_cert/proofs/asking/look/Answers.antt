use Rattle.least_cert.proofs.Common.{AddsAll, Edge, GivesAll, List, has, subst, true, ◌∙◌, ◌≡◌}
use Rattle.least_cert.proofs.Asks.{looks_at}
use Rattle.least_cert.proofs.Growth.{gift_moves, least_moves}
use Rattle.least_cert.proofs.asking.look.Goals as goal

pub add_all-requires-clause-least : goal.add_all-requires-clause-least
add_all-requires-clause-least c = λ e h.
    c.in_ok-passed.ensures.only e (subst (λ (xs : List Edge). has xs e ≡ true) c.as_slice.ensures.value h)

pub add_all-requires-2-clause-least : goal.add_all-requires-2-clause-least
add_all-requires-2-clause-least c = λ e h.
    least_moves c.args.closing.now c.add_all.new.self c.in_ok-add_all.ensures.added.grows.spec_is
    c.in_ok-add_all.ensures.added.grows.labels_is e
    (c.in_ok-asked.ensures.only e (subst (λ (xs : List Edge). has xs e ≡ true) c.as_slice-2.ensures.value h))

pub give_all-requires-clause-gifts : goal.give_all-requires-clause-gifts
give_all-requires-clause-gifts c = λ g h.
    gift_moves c.args.closing.now c.add_all-2.new.self (c.in_ok-add_all-2.ensures.added.grows.spec_is
    ∙ c.in_ok-add_all.ensures.added.grows.spec_is) (c.in_ok-add_all-2.ensures.added.grows.labels_is
    ∙ c.in_ok-add_all.ensures.added.grows.labels_is) g
    (c.in_ok-gifts.ensures.only g (subst (λ (xs : List Edge). has xs g ≡ true) c.as_slice-3.ensures.value h))

pub join_ends-requires-clause-least : goal.join_ends-requires-clause-least
join_ends-requires-clause-least c =
    least_moves c.args.closing.now c.give_all.new.self
    (c.in_ok-give_all.ensures.given.grows.spec_is ∙ (c.in_ok-add_all-2.ensures.added.grows.spec_is
    ∙ c.in_ok-add_all.ensures.added.grows.spec_is))
    (c.in_ok-give_all.ensures.given.grows.labels_is ∙ (c.in_ok-add_all-2.ensures.added.grows.labels_is
    ∙ c.in_ok-add_all.ensures.added.grows.labels_is))
    c.args.edge (c.requires.sound.least c.args.edge c.requires.known)

pub returns-clause-looked : goal.returns-clause-looked
returns-clause-looked c =
    looks_at c.args.closing.now c.requires.sound c.args.edge c.requires.known c.in_ok-passed.passed.items
    c.in_ok-asked.asked.items c.in_ok-gifts.gifts.items c.add_all.new.self c.add_all-2.new.self c.give_all.new.self
    c.join_ends.new.closing
    c.in_ok-passed.ensures c.in_ok-asked.ensures c.in_ok-gifts.ensures
    (subst (λ (xs : List Edge). AddsAll xs c.args.closing.now c.add_all.new.self) c.as_slice.ensures.value
    c.in_ok-add_all.ensures.added)
    (subst (λ (xs : List Edge). AddsAll xs c.add_all.new.self c.add_all-2.new.self) c.as_slice-2.ensures.value
    c.in_ok-add_all-2.ensures.added)
    (subst (λ (xs : List Edge). GivesAll xs c.add_all-2.new.self c.give_all.new.self) c.as_slice-3.ensures.value
    c.in_ok-give_all.ensures.given)
    c.in_ok-join_ends.ensures.joined
