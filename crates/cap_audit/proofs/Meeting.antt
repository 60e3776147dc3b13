-- Those for whom one stands call those for whom another stands.
use Rattle.std.proofs.Common.{rules}
use Rattle.cap_audit.proofs.Common.{AreMet, ArePlaces, AreReady, Below, Between, Bool, Contains, Edge, Found, Gains, Greets, Held, IsQueued, IsSoFar, List, Made, MeetBy, Meets, OfKinds, OfSome, Pair, Place, Some, Spec, [], add-one, ap, at_contains}
use Rattle.cap_audit.proofs.Common.{contains_at, drop, drop-cons, eqb-false, eqb-true, false, filter_map, from_filter_map, get_or, has, held_by, inl, inr, length, place_in, place_of, refl, replicate, row_at, slice_get, subst, suc, sym}
use Rattle.cap_audit.proofs.Common.{to_filter_map, true, with_more, zero, ℕ, ◌+◌, ◌<◌, ◌==◌, ◌∙◌, ◌∷◌, ◌≡◌, ◌≢◌, ◌≤◌}
use Rattle.cap_audit.proofs.Gaining.{AtPlace, below_none, gains_by, gains_none, some_all, some_more}
use Rattle.cap_audit.proofs.InRows.{more_cases, none_in_blank}

-- the place of a value

-- the value stands at some place, and at that number
abbrev IsAt : ℕ → ℕ → List Held → Place → Type 0
IsAt node value helds at = (at.node ≡ node)
    × ((k : ℕ) × (slice_get helds k ≡ Some (record { value = value; number = at.number })))

place_stands : (node value : ℕ) (helds : List Held) (at : Place) → place_in node value helds ≡ Some at → IsAt node value helds at
place_stands node value [] at h = absurd cc
place_stands node value (held ∷ helds) at h = go (held.value == value) refl (λ g. place_stands node value helds at g) where
  go : (b : Bool) → (held.value == value) ≡ b → (place_in node value helds ≡ Some at → IsAt node value helds at)
      → IsAt node value (held ∷ helds) at
  go true holds rest =
      let made : Place = record { node = node; number = held.number } in
      let e : place_in node value (held ∷ helds) ≡ Some made = rw holds refl in
      let g : Some made ≡ Some at = sym e ∙ h in
      let same : made ≡ at = cc in
      let first : slice_get (held ∷ helds) 0 ≡ Some (record { value = held.value; number = held.number }) = refl in (
        sym (ap (λ (p : Place). p.node) same),
        (
          0,
          subst (λ (n : ℕ). slice_get (held ∷ helds) 0 ≡ Some (record { value = value; number = n }))
              (ap (λ (p : Place). p.number) same)
              (subst (λ (v : ℕ). slice_get (held ∷ helds) 0 ≡ Some (record { value = v; number = held.number }))
              (eqb-true held.value value holds) first),
        ),
      )
  go false fails rest =
      let e : place_in node value (held ∷ helds) ≡ place_in node value helds = rw fails refl in
      let r = rest (sym e ∙ h) in
      (r.0, (suc r.1.0, r.1.1))

-- the first place of the node that has the value
abbrev IsThere : ℕ → ℕ → List Held → Type 0
IsThere node value helds = (at : Place) × (place_in node value helds ≡ Some at) × (at.node ≡ node)

place_there : (node value : ℕ) (helds : List Held) (k : ℕ) (held : Held) → slice_get helds k ≡ Some held → held.value ≡ value
    → IsThere node value helds
place_there node value [] k held h is = absurd cc
place_there node value (x ∷ xs) zero held h is = go (x.value == value) refl where
  go : (b : Bool) → (x.value == value) ≡ b → IsThere node value (x ∷ xs)
  go true holds = (record { node = node; number = x.number }, rw holds refl, refl)
  go false fails = absurd (let same : x ≡ held = cc in eqb-false x.value value fails (ap (λ (y : Held). y.value) same ∙ is))
place_there node value (x ∷ xs) (suc j) held h is = go (x.value == value) refl (place_there node value xs j held h is) where
  go : (b : Bool) → (x.value == value) ≡ b → IsThere node value xs → IsThere node value (x ∷ xs)
  go true holds r = (record { node = node; number = x.number }, rw holds refl, refl)
  go false fails r = (r.0, rw fails r.1, r.2)

pub places_are : (f : Found) (nodes : List ℕ) (value : ℕ) (places : List Place) → places ≡ filter_map (place_of f value) nodes
    → ArePlaces f nodes value places
places_are f nodes value places is = rw is (record {
  stand = λ at h. (
      let j = contains_at (filter_map (place_of f value) nodes) at h in
      let r = from_filter_map (place_of f value) nodes j.0 at j.1 in
      let s = place_stands r.1 value (held_by f r.1) at r.3 in
      let x : Held = record { value = value; number = at.number } in
      at_contains (held_by f at.node) x s.1.0 (subst (λ (n : ℕ). slice_get (held_by f n) s.1.0 ≡ Some x) (sym s.0) s.1.1));
  every = λ c held h there of. (
      let k = contains_at nodes c h in
      let j = contains_at (held_by f c) held there in
      let p = place_there c value (held_by f c) j.0 held j.1 of in
      let r = to_filter_map (place_of f value) nodes k.0 c p.0 k.1 p.1 in
      (p.0, at_contains (filter_map (place_of f value) nodes) p.0 r.0 r.1, p.2));
})

module _ (spec : Spec) (f : Found) (heads : List ℕ) (rosters members : List (List ℕ)) (gates : List (List Pair))
    (r : AreReady spec f heads rosters members gates) where
  -- a member holds what its head holds, and so has a place
  member_place : (c v : ℕ) (nodes : List ℕ) (places : List Place) → IsQueued f c v → nodes ≡ row_at members c
      → ArePlaces f nodes v places → (y : ℕ) → Contains (row_at members c) y → (at : Place) × Contains places at × (at.node ≡ y)
  member_place c v nodes places q is are y there =
      let here : IsQueued f y v =
      r.alike.held_here y v (subst (λ (n : ℕ). IsQueued f n v) (sym (r.are_members.stands c y there)) q) in
      are.every y here.pair.held (rw is there)
      (subst (λ (n : ℕ). Contains (held_by f n) here.pair.held) here.at (r.all.queued here.place here.pair here.there)) here.of

  module _ (c d v w : ℕ) (nodes others : List ℕ) (callers peers : List Place) (q : IsQueued f c v) (p : IsQueued f d w)
      (is : nodes ≡ row_at members c) (peer_is : others ≡ row_at members d)
      (are : ArePlaces f nodes v callers) (are_peers : ArePlaces f others w peers) where
    pub kinds_by_places : (labels : List ℕ) (e : Edge) → OfKinds labels rosters members c d e
        → OfSome (λ (peer : Place). OfSome (λ (at : Place). Between labels rosters at.node peer.node) callers) peers e
    kinds_by_places labels e x =
        let b = member_place d w others peers p peer_is are_peers x.item x.there in
        let a = member_place c v nodes callers q is are x.by.item x.by.there in
        let here : Between labels rosters a.0.node b.0.node e = search (rules) in
        record { item = b.0; there = b.1; by = record { item = a.0; there = a.1; by = here } }

pub places_meet : (spec : Spec) (f : Found) (v w : ℕ) (nodes others : List ℕ) (callers peers : List Place)
    → ArePlaces f nodes v callers → ArePlaces f others w peers → MeetBy spec f v w
    → (peer at : Place) → Contains peers peer → Contains callers at → Meets spec f at peer
places_meet spec f v w nodes others callers peers are are_peers m peer at there here = search (rules)

-- who has met

pub none_met : (labels : List ℕ) (rosters members met : List (List ℕ)) (n : ℕ) (edges : List Edge) → met ≡ replicate n []
    → AreMet labels rosters members met edges
none_met labels rosters members met n edges is =
    rw is (record { shown = λ c d e there of differ. absurd (none_in_blank n c d there) })

module _ (rosters members : List (List ℕ)) (m : Made) (met : List (List ℕ))
    (are : AreMet m.labels rosters members met m.edges) where
  pub greets_none : (P : Edge → Type 0) → IsSoFar m → ((e : Edge) → P e → e.from ≢ e.to → has m.edges e ≡ true)
      → Greets rosters members P m m met
  greets_none P so there = record { gains = gains_none P m so there; are = are }

  pub greets_known : (c d : ℕ) (row : List ℕ) → IsSoFar m → row ≡ row_at met c → Contains row d
      → Greets rosters members (OfKinds m.labels rosters members c d) m m met
  greets_known c d row so is known = greets_none (OfKinds m.labels rosters members c d) so
      (λ e of differ. are.shown c d e (subst (λ (xs : List ℕ). Contains xs d) is known) of differ)

  pub greets_new : (c d : ℕ) (new : Made) (more : List (List ℕ)) → Gains (OfKinds m.labels rosters members c d) m new
      → more ≡ with_more met c d → Greets rosters members (OfKinds m.labels rosters members c d) m new more
  greets_new c d new more g is = record {
    gains = g;
    are = subst (λ (xs : List (List ℕ)). AreMet m.labels rosters members xs new.edges) (sym is) (record {
      shown = λ x y e there of differ. elim (more_cases met c d x y there) [
        | inl old ↦ g.kept e (are.shown x y e old of differ)
        | inr now ↦ search (rules)
      ];
    });
  }

  pub greets_begin : (P : ℕ → Edge → Type 0) → IsSoFar m → Greets rosters members (Below P 0) m m met
  greets_begin P so = record { gains = below_none P m so; are = are }

module _ (rosters members : List (List ℕ)) {A : Type 0} (P : A → Edge → Type 0) (items : List A) where
  pub greets_more : (n : ℕ) (item : A) (a b c : Made) (met more : List (List ℕ)) → slice_get items n ≡ Some item
      → Greets rosters members (Below (AtPlace P items) n) a b met
      → Greets rosters members (P item) b c more → Greets rosters members (Below (AtPlace P items) (n + 1)) a c more
  greets_more n item a b c met more here before now = search (rules, some_more)

  pub greets_all : (n : ℕ) (a b : Made) (met : List (List ℕ)) → length items ≤ n
      → Greets rosters members (Below (AtPlace P items) n) a b met → Greets rosters members (OfSome P items) a b met
  greets_all n a b met le g = record { gains = some_all P items n a b le g.gains; are = g.are }

pub greets_by : (rosters members : List (List ℕ)) (P Q : Edge → Type 0) → ((e : Edge) → Q e → P e)
    → (m new : Made) (met : List (List ℕ)) → Greets rosters members P m new met → Greets rosters members Q m new met
greets_by rosters members P Q from m new met g = record { gains = gains_by P Q from m new g.gains; are = g.are }

-- the first place of a node, one item after the other

pub place_past : (node value : ℕ) (helds : List Held) (i : ℕ) (d : Held) → i < length helds
    → ((get_or helds i d).value == value) ≡ false → place_in node value (drop i helds) ≡ place_in node value (drop (i + 1) helds)
place_past node value helds i d less fails = search (rules, drop-cons, add-one)

pub place_here : (node value : ℕ) (helds : List Held) (i : ℕ) (d : Held) → i < length helds
    → ((get_or helds i d).value == value) ≡ true
    → (let made : Place = record { node = node; number = (get_or helds i d).number } in
    place_in node value (drop i helds) ≡ Some made)
place_here node value helds i d less holds = search (rules, drop-cons)
