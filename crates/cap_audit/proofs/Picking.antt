-- What the picks of a CNode are, and what steps with them make.
use Rattle.std.proofs.Common.{rules}
use Rattle.cap_audit.proofs.Common.{Bool, Cap, Contains, Deed, Edge, Found, HasRoot, Held, HoldsAt, IsHeld, List, None, OfDeed, OfDeeds, OfSome, Option, OwnsAll, Pick, Some, Spec, Wanted, at_contains, contains_at, false, filter_map}
use Rattle.cap_audit.proofs.Common.{from_filter_map, held_by, is_wanted, pick_of, refl, slice_get, subst, to_filter_map, true, wanted_from, wanted_to, ℕ, ◌∙◌, ◌≡◌}

module _ (spec : Spec) (f : Found) (wanted : Wanted) where
  -- a pick is what it was picked from
  pub picked_from : (held : Held) (pick : Pick) → pick_of spec f wanted held ≡ Some pick
      → (slice_get f.values held.value ≡ Some pick.cap) × (pick.number ≡ held.number) × (is_wanted spec wanted pick.cap ≡ true)
  picked_from held pick h = search (rules, slice_get)

  pub picked : (held : Held) (cap : Cap) → slice_get f.values held.value ≡ Some cap → is_wanted spec wanted cap ≡ true
      → (let made : Pick = record { number = held.number; cap = cap } in pick_of spec f wanted held ≡ Some made)
  picked held cap is fit = rw (is, fit) refl

  -- a pick of a held value stands there
  pub pick_holds : (c : ℕ) (held : Held) (pick : Pick) → Contains (held_by f c) held → pick_of spec f wanted held ≡ Some pick
      → HoldsAt f c pick.number pick.cap
  pick_holds c held pick there h = search (rules, picked_from)

  module _ (c : ℕ) where
    pub pick_at : (pick : Pick) → Contains (filter_map (pick_of spec f wanted) (held_by f c)) pick
        → HoldsAt f c pick.number pick.cap × (is_wanted spec wanted pick.cap ≡ true)
    pick_at pick h =
        let k = contains_at (filter_map (pick_of spec f wanted) (held_by f c)) pick h in
        let r = from_filter_map (pick_of spec f wanted) (held_by f c) k.0 pick k.1 in
        (pick_holds c r.1 pick (at_contains (held_by f c) r.1 r.0 r.2) r.3, (picked_from r.1 pick r.3).2)

    pub pick_of_held : (cap : Cap) → IsHeld f c cap → is_wanted spec wanted cap ≡ true
        → (pick : Pick) × Contains (filter_map (pick_of spec f wanted) (held_by f c)) pick × (pick.cap ≡ cap)
    pick_of_held cap h fit =
        let made : Pick = record { number = h.held.number; cap = cap } in
        let k = contains_at (held_by f c) h.held h.there in
        let r = to_filter_map (pick_of spec f wanted) (held_by f c) k.0 h.held made k.1 (picked h.held cap h.is fit) in
        (made, at_contains (filter_map (pick_of spec f wanted) (held_by f c)) made r.0 r.1, refl)

module _ (spec : Spec) (labels : List ℕ) (f : Found) (deed : Deed) (c : ℕ) (froms tos : List Pick)
    (are_froms : froms ≡ filter_map (pick_of spec f (wanted_from deed)) (held_by f c))
    (are_tos : tos ≡ filter_map (pick_of spec f (wanted_to deed)) (held_by f c)) where
  from_at : (from : Pick) → Contains froms from → HoldsAt f c from.number from.cap
      × (is_wanted spec (wanted_from deed) from.cap ≡ true)
  from_at from h = pick_at spec f (wanted_from deed) c from (subst (λ (xs : List Pick). Contains xs from) are_froms h)

  to_at : (to : Pick) → Contains tos to → HoldsAt f c to.number to.cap × (is_wanted spec (wanted_to deed) to.cap ≡ true)
  to_at to h = pick_at spec f (wanted_to deed) c to (subst (λ (xs : List Pick). Contains xs to) are_tos h)

  pub owns_all : (t : ℕ) → HasRoot spec t c → OwnsAll spec f t deed froms tos
  owns_all t root = record {
    node = c;
    root = root;
    own_from = λ from h. (from_at from h).0;
    is_from = λ from h. (from_at from h).1;
    own_to = λ to h. (to_at to h).0;
    is_to = λ to h. (to_at to h).1;
  }

  -- all that such steps make comes of two picks
  pub deeds_of_picks : (e : Edge) → OfDeeds spec labels f deed c e
      → OfSome (λ (from : Pick). OfSome (λ (to : Pick). OfDeed spec labels deed from.cap to.cap) tos) froms e
  deeds_of_picks e d =
      let x = pick_of_held spec f (wanted_from deed) c d.from d.has_from d.is_from in
      let y = pick_of_held spec f (wanted_to deed) c d.to d.has_to d.is_to in
      let by_from : OfDeed spec labels deed x.0.cap d.to e = search (rules) in
      let by_both : OfDeed spec labels deed x.0.cap y.0.cap e = search (rules) in
      search (rules)
