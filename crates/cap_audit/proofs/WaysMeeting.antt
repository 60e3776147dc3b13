-- Members of hubs, and what coming to a hub leaves.
use Rattle.std.proofs.Common.{rules}
use Rattle.cap_audit.proofs.Common.{Attends, Connects, Contains, Fills, Found, Gathering, Grows, HasRoot, InClass, IsFound, IsHub, IsMember, IsWeb, Joins, Lanes, Leads, List, Member, None, Option, Pair, Passage, Passes, Path, Side, Some, Spec}
use Rattle.cap_audit.proofs.Common.{StandsAt, Web, Widened, Widens, [], arith, at_end, cases_lt, course_of, false, inl, inr, is_at, is_at_below, length, length-set, members_at, opposite, refl, row_at, side_of, slice_get, slice_get_within, subst, sym}
use Rattle.cap_audit.proofs.Common.{true, with_member, ℕ, ◌++◌, ◌<◌, ◌∙◌, ◌∷◌, ◌≡◌, ◌≢◌, ◌≤◌, ◌⊎◌}
use Rattle.cap_model.specs.declared.kind.Kind.TheVariants as kinds
use Rattle.cap_audit.specs.declared.hubs.Passage.TheVariants as passages
use Rattle.cap_audit.specs.declared.hubs.Side.TheVariants as sides
use Rattle.cap_audit.proofs.InRows.{more_kept, more_cases, more_there}
use Rattle.cap_audit.proofs.Bringing.{none_within}
use Rattle.cap_audit.proofs.Paths.{later_then, holds_on, path_on, widened_same, widens_then}
use Rattle.cap_audit.proofs.Quiet.{quiet_cnode}

-- what a place past the end of a list of members is read as
abbrev pub no_member : Member
no_member = record {
  node = 0;
  thread = 0;
  number = 0;
  cap = record { object = 0; rights = record { read = false; write = false; grant = false; reply = false }; badge = 0 };
}

pub member_on : (spec : Spec) (f g : Found) → Grows f g → (e : ℕ) (by : Passage) (side : Side) (member : Member)
    → IsMember spec f e by side member → IsMember spec g e by side member
member_on spec f g grows e by side member m = search (rules, holds_on)

-- roots that differ are of threads that differ
roots_differ : (spec : Spec) (t u c d : ℕ) → HasRoot spec t c → HasRoot spec u d → c ≢ d → t ≢ u
roots_differ spec t u c d a b differ same = differ (let x : HasRoot spec t d = subst (λ (n : ℕ). HasRoot spec n d) (sym same) b in
    cc)

-- a giver and a taker with different roots
pub meeting_leads : (spec : Spec) (f : Found) (e : ℕ) (passage : Passage) (giver taker : Member)
    → IsMember spec f e passage sides.Giving giver → IsMember spec f e passage sides.Taking taker → giver.node ≢ taker.node
    → Leads spec f giver.node taker.node (course_of passage giver taker)
meeting_leads spec f e passages.Grant giver taker g k differ = search (rules, roots_differ)
meeting_leads spec f e passages.Reply giver taker g k differ = search (rules, roots_differ)

pub member_below : (spec : Spec) (f : Found) (e : ℕ) (by : Passage) (side : Side) (member : Member) → IsFound spec f
    → IsMember spec f e by side member → member.node < length spec.entries
member_below spec f e by side member F m = is_at_below spec kinds.CNode member.node (quiet_cnode spec F.state F.quiet
    member.thread member.node m.root)

pub endpoint_below : (spec : Spec) (e : ℕ) → is_at spec kinds.Endpoint e ≡ true → e < length spec.entries
endpoint_below spec e is = is_at_below spec kinds.Endpoint e is

-- wider and wider

-- a queue doesn't shrink
pub queue_longer : (f g : Found) (n : ℕ) → Grows f g → n ≤ length f.queue → n ≤ length g.queue
queue_longer f g n grows le = elim (cases_lt (length g.queue) n) [
  | inr ge ↦ ge
  | inl less ↦ absurd (go (slice_get f.queue (length g.queue)) refl less)
] where
  go : (o : Option Pair) → slice_get f.queue (length g.queue) ≡ o → length g.queue < n → ⊥
  go None h less = none_within f.queue (length g.queue) h (omega arith)
  go (Some pair) h less = let there = grows.queue (length g.queue) pair h in
      let within = slice_get_within g.queue (length g.queue) pair there in omega arith

pub widened_then : (spec : Spec) (a b c : Web) → Widened spec a b → Widened spec b c → Widened spec a c
widened_then spec a b c x y = search (rules, later_then, widens_then, queue_longer)

-- one CNode is connected with itself
pub same_connects : (spec : Spec) (web : Web) (c d : ℕ) → IsWeb spec web → c ≡ d → Connects spec web c d web
same_connects spec web c d is same = record {
  widened = widened_same spec web is;
  path = subst (λ (n : ℕ). Path web.net c n) same at_end;
}

pub widened_web : (spec : Spec) (web new : Web) → Widened spec web new → IsWeb spec new
widened_web spec web new w = record { found = w.later.found; ways = w.ways }

pub passes_on : (side : Side) (net wide : Lanes) → Widens net wide → (c d : ℕ) → Passes side net c d → Passes side wide c d
passes_on sides.Giving net wide w c d p = path_on net wide w c d p
passes_on sides.Taking net wide w c d p = path_on net wide w d c p

pub hub_on : (spec : Spec) (web new : Web) (by : Passage) (hub : Gathering) → Widened spec web new → IsHub spec web by hub
    → IsHub spec new by hub
hub_on spec web new by hub w h = record {
  members = λ side e m there. member_on spec web.findings new.findings w.later.grows e by side m (h.members side e m there);
  met = λ side e m o a b. passes_on side web.net new.net w.widens m.node o.node (h.met side e m o a b);
  as_many = h.as_many;
}

pub passes_back : (side : Side) (net : Lanes) (c d : ℕ) → Passes (opposite side) net c d → Passes side net d c
passes_back sides.Giving net c d p = p
passes_back sides.Taking net c d p = p

passes_same : (side : Side) (net : Lanes) (c : ℕ) → Passes side net c c
passes_same sides.Giving net c = at_end
passes_same sides.Taking net c = at_end

-- one that is joined with a member stands there by it
pub fellow_stands : (spec : Spec) (web : Web) → IsWeb spec web → (side : Side) (members : List Member) (c : ℕ)
    → (member : Member) × Contains members member × InClass web.net c member.node → StandsAt side web.net members c
fellow_stands spec web is side members c (member, there, same) = search (rules)

-- a member more

pub put_cases : (hub : Gathering) (side : Side) (member : Member) (at : Side) (e : ℕ) (x : Member)
    → Contains (members_at (with_member hub side member) at e) x
    → Contains (members_at hub at e) x ⊎ ((at ≡ side) × (e ≡ member.cap.object) × (member ≡ x))
put_cases hub sides.Giving member sides.Giving e x h = elim (more_cases hub.givers member.cap.object member e x h) [
  | inl old ↦ inl old
  | inr new ↦ inr (refl, new.0, new.1)
]
put_cases hub sides.Taking member sides.Taking e x h = elim (more_cases hub.takers member.cap.object member e x h) [
  | inl old ↦ inl old
  | inr new ↦ inr (refl, new.0, new.1)
]
put_cases hub sides.Giving member sides.Taking e x h = inl h
put_cases hub sides.Taking member sides.Giving e x h = inl h

put_kept : (hub : Gathering) (side : Side) (member : Member) → Fills hub (with_member hub side member)
put_kept hub sides.Giving member sides.Giving e x h = more_kept hub.givers member.cap.object member e x h
put_kept hub sides.Taking member sides.Taking e x h = more_kept hub.takers member.cap.object member e x h
put_kept hub sides.Giving member sides.Taking e x h = h
put_kept hub sides.Taking member sides.Giving e x h = h

put_there : (hub : Gathering) (side : Side) (member : Member) → member.cap.object < length (side_of hub side)
    → Contains (members_at (with_member hub side member) side member.cap.object) member
put_there hub sides.Giving member less = more_there hub.givers member.cap.object member less
put_there hub sides.Taking member less = more_there hub.takers member.cap.object member less

put_length : (hub : Gathering) (side : Side) (member : Member) (at : Side)
    → length (side_of (with_member hub side member) at) ≡ length (side_of hub at)
put_length hub sides.Giving member sides.Giving =
    length-set hub.givers member.cap.object (row_at hub.givers member.cap.object ++ member ∷ [])
put_length hub sides.Taking member sides.Taking =
    length-set hub.takers member.cap.object (row_at hub.takers member.cap.object ++ member ∷ [])
put_length hub sides.Giving member sides.Taking = refl
put_length hub sides.Taking member sides.Giving = refl

not_opposite : (side : Side) → opposite side ≡ side → ⊥
not_opposite sides.Giving e = let x : ◌≡◌ {A = Side} sides.Taking sides.Giving = e in cc
not_opposite sides.Taking e = let x : ◌≡◌ {A = Side} sides.Giving sides.Taking = e in cc

module _ (spec : Spec) (web : Web) (by : Passage) (hub : Gathering) (h : IsHub spec web by hub) (side : Side) (member : Member)
    (is : IsMember spec web.findings member.cap.object by side member) (new : Web)
    (j : Joins spec web side member (members_at hub (opposite side) member.cap.object) new)
    (less : member.cap.object < length spec.entries) where
  abbrev full : Gathering
  full = with_member hub side member

  grown : IsHub spec new by hub
  grown = hub_on spec web new by hub j.widened h

  -- the ways between the new one and one of the other side
  joined : (at : Side) (e : ℕ) (x o : Member) → at ≡ side → e ≡ member.cap.object → member ≡ x
      → Contains (members_at hub (opposite at) e) o → Passes at new.net x.node o.node
  joined at e x o s is same there = search (rules)

  opposite_twice : (at : Side) → opposite (opposite at) ≡ at
  opposite_twice sides.Giving = refl
  opposite_twice sides.Taking = refl

  met_after : (at : Side) (e : ℕ) (x o : Member) → Contains (members_at full at e) x
      → Contains (members_at full (opposite at) e) o → Passes at new.net x.node o.node
  met_after at e x o a b = elim (put_cases hub side member at e x a) [
    | inl old ↦ elim (put_cases hub side member (opposite at) e o b) [
      | inl other ↦ grown.met at e x o old other
      | inr now ↦ passes_back at new.net o.node x.node (joined (opposite at) e o x now.0 now.1 now.2
          (subst (λ (s : Side). Contains (members_at hub s e) x) (sym (opposite_twice at)) old))
    ]
    | inr now ↦ search (rules, put_cases, joined, not_opposite)
  ]

  pub member_attends : Attends spec web hub by side member new full
  member_attends = record {
    widened = j.widened;
    is = record {
      members = λ at e x there. elim (put_cases hub side member at e x there) [
        | inl old ↦ grown.members at e x old
        | inr now ↦ rw (now.0, now.1, ← now.2)
            (member_on spec web.findings new.findings j.widened.later.grows member.cap.object by side member is)
      ];
      met = met_after;
      as_many = λ at. put_length hub side member at ∙ h.as_many at;
    };
    fills = put_kept hub side member;
    stands = λ allows. record {
      member = member;
      there = put_there hub side member (let e = h.as_many side in omega arith);
      path = passes_same side new.net member.node;
    };
  }
