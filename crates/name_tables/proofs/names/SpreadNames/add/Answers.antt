use Rattle.name_tables.proofs.Common.{[], ap, ap₂, found, get_or_read_under, has_room, option_or, spread_found, subst, sym, ◌%◌, ◌<◌, ◌∙◌, ◌∷◌}
use Rattle.name_tables.proofs.Spread.{spread_put}
use Rattle.name_tables.proofs.names.SpreadNames.add.Goals as goal

pub returns-clause-found : goal.returns-clause-found
returns-clause-found g c =
    let places = c.self.inside.places in
    let many = c.len.ensures ∙ places.ok.0 in
    let at = c.place-at.ensures in
    let here = get_or_read_under places.items c.place-at.result c.len.result c.index_mut.result.now [] c.index_mut.ensures.value
    at.bound many in
    let room = get_or_read_under places.items c.place-at.result c.len.result c.index-2.result.now [] c.index-2.ensures
    at.bound many in
    λ n.
    spread_put places.items c.self.inside.others c.place-at.result c.args.name.now c.args.value
    (at.place ∙ ap₂ (λ a b. a % b) c.digest-number.ensures many) c.index_mut.result.now c.push.new.self here
    (subst (λ m. c.place-at.result < m) many at.bound)
    (ap has_room (here ∙ sym room) ∙ sym c.has_room.ensures ∙ c.if-not-has_room.false) c.self.invariant.1
    c.in_ok-push.ensures.ok n
    ∙ ap (λ s. option_or (spread_found s n) (found ((c.args.name.now, c.args.value) ∷ []) n)) c.self.view_is
