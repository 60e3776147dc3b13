-- What looking at a pair leaves, and that nothing is left to find when all are looked at.
use Rattle.std.proofs.Common.{rules}
use Rattle.cap_audit.proofs.Common.{Allows, AreAlike, AreCovered, AreHubs, Cap, Connects, Contains, Covered, Covers, CoversPair, Doors, Found, GoesAlong, GoesOn, Grows, HasRoot, HasSlots, InClass, IsClosed, IsFound, IsFoundAt, IsSearch}
use Rattle.cap_audit.proofs.Common.{IsWeb, Later, Links, List, Merges, None, Opens, Option, Pair, Passage, Path, Side, Some, Spec, StandsAt, Way, Web, Widened, Widens, arith, cases_lt, held_by, hub_of, inl, inr, is_at, is_at_below, is_known}
use Rattle.cap_audit.proofs.Common.{kind_is, length, members_at, refl, slice_get, slice_get_within, subst, sym, true, ways_from, ℕ, ◌+◌, ◌<◌, ◌≡◌}
use Rattle.cap_model.specs.declared.kind.Kind.TheVariants as kinds
use Rattle.cap_audit.specs.Ways.{HaveGone}
use Rattle.cap_audit.specs.declared.hubs.Passage.TheVariants as passages
use Rattle.cap_audit.specs.declared.hubs.Side.TheVariants as sides
use Rattle.cap_audit.proofs.Quiet.{quiet_cnode}
use Rattle.cap_audit.proofs.Covering.{covered_on, widened_opens}
use Rattle.cap_audit.proofs.WaysMeeting.{hub_on, widened_then, queue_longer}
use Rattle.cap_audit.proofs.Paths.{path_then, path_on, queue_same, later_same, later_then, ways_on, widened_same, widens_same, known_along, merged_ways, relabelled_widens}

-- a root and a CNode with ways there and back are one class
pub linked : (spec : Spec) (web one two new : Web) (c d : ℕ) → Connects spec web c d one → Connects spec one d c two
    → new.findings ≡ two.findings → new.net.out ≡ two.net.out → Merges two.net.classes c d new.net.classes
    → c < length two.net.classes → d < length two.net.classes → Links spec web c d new
linked spec web one two new c d a b same out m c_less d_less =
    let there = path_on one.net two.net b.widened.widens c d a.path in
    let on : Widens two.net new.net = search (rules) in
    search (rules, relabelled_widens, widened_then, merged_ways, path_on)

-- already one class
pub joined_links : (spec : Spec) (web : Web) (c d : ℕ) → IsWeb spec web → InClass web.net c d → Links spec web c d web
joined_links spec web c d is i = search (rules, widened_same)

-- what a link covers
pub link_covers : (spec : Spec) (web : Web) (doors : Doors) (c : ℕ) (cap : Cap) (new : Web) → AreHubs spec web doors
    → is_at spec kinds.CNode cap.object ≡ true → Links spec web c cap.object new → Covers spec web doors c cap new doors
link_covers spec web doors c cap new H is links = record {
  opens = widened_opens spec web new doors H links.widened;
  covered = record {
    there = λ t root e. links.there;
    back = λ t root e. links.back;
    stands = search (rules, kind_is);
  };
}

-- one place more

module _ (spec : Spec) (web : Web) (doors : Doors) (place : ℕ) (s : IsSearch spec web doors place)
    (inside : place < length web.findings.queue) (pair : Pair) (is : slice_get web.findings.queue place ≡ Some pair)
    (mid : Web) (goes : GoesAlong spec web.findings (ways_from web.net pair.node) pair.held mid.findings)
    (same_net : mid.net ≡ web.net) where
  gone : HaveGone mid.findings mid.net (place + 1)
  unfolding HaveGone
  gone = search (rules, slice_get, queue_same, cases_lt)

  -- ways alone, without those that go further
  pub mid_widened : Widened spec web mid
  unfolding HaveGone
  mid_widened = record {
    later = goes.later;
    ways = rw same_net (ways_on spec web.findings mid.findings web.net goes.later.grows s.is.ways);
    widens = rw same_net (widens_same web.net);
    gone = λ done le gone. rw same_net (λ k p way less h there. goes.later.grows.known way.to p.held.value
        (gone k p way less (queue_same web.findings mid.findings k p goes.later.grows (omega arith) h) there));
  }

  pub mid_hubs : AreHubs spec mid doors
  mid_hubs = λ by. hub_on spec web mid by (hub_of doors by) mid_widened (s.hubs by)

  pub mid_held : Contains (held_by mid.findings pair.node) pair.held
  mid_held = goes.later.grows.held pair.node pair.held (s.is.found.queued place pair is)

  module _ (new : Web) (full : Doors) (covers : CoversPair spec mid doors pair new full) where
    later : Later spec web.findings new.findings
    later = later_then spec web.findings mid.findings new.findings goes.later covers.opens.widened.later

    all_opens : Opens spec web doors new full
    all_opens = search (rules, widened_then, mid_widened)

    all_covered : AreCovered spec new full (place + 1)
    all_covered k p cap less h v =
        let old : slice_get web.findings.queue k ≡ Some p = search (rules, queue_same, later) in
        let mid_value : slice_get mid.findings.values p.held.value ≡ Some cap = search (rules, slice_get) in
        let value : slice_get web.findings.values p.held.value ≡ Some cap = search (rules, slice_get, later) in
        elim (cases_lt k place) [
          | inl below ↦ covered_on spec web new doors full p.node cap all_opens (s.covered k p cap below old value)
          | inr ge ↦ search (rules, slice_get)
        ]

    pub looked : GoesOn spec web (place + 1) new full
    looked = search (rules, gone, queue_longer, all_covered, later)

pub slots_on : (spec : Spec) (f g : Found) → Grows f g → HasSlots spec f → HasSlots spec g
slots_on spec f g grows h = record {
  each = λ c i cap there. (let x = h.each c i cap there in
      (x.0, subst (λ (values : List Cap). slice_get values x.0 ≡ Some cap) (sym grows.values) x.1, grows.known c x.0 x.2));
}

-- when all are looked at, the rules of spreading hold for what is known
module _ (spec : Spec) (web : Web) (doors : Doors) (s : IsSearch spec web doors (length web.findings.queue))
    (slots : HasSlots spec web.findings) where
  goes_on : (v c : ℕ) (way : Way) → is_known web.findings c v ≡ true → Contains (ways_from web.net c) way
      → is_known web.findings way.to v ≡ true
  unfolding HaveGone
  goes_on v c way known there = search (rules, slice_get_within)

  by_path : (c d : ℕ) (cap : Cap) → Path web.net c d → IsFoundAt web.findings c cap → IsFoundAt web.findings d cap
  by_path c d cap path at = search (rules, known_along, goes_on)

  is_covered : (c : ℕ) (cap : Cap) → IsFoundAt web.findings c cap → Covered spec web.net doors c cap
  is_covered c cap at = search (rules, slice_get_within, slice_get)

  -- from one that gives at an endpoint to one that takes there
  through : (by : Passage) (e c d : ℕ) → StandsAt sides.Giving web.net (members_at (hub_of doors by) sides.Giving e) c
      → StandsAt sides.Taking web.net (members_at (hub_of doors by) sides.Taking e) d → Path web.net c d
  through by e c d g k =
      let h = s.hubs by in
      path_then web.net c g.member.node d g.path (path_then web.net g.member.node k.member.node d
      (h.met sides.Giving e g.member k.member g.there k.there) k.path)

  stands : (by : Passage) (side : Side) (t c e : ℕ) (cap : Cap) → HasRoot spec t c → IsFoundAt web.findings c cap
      → is_at spec kinds.Endpoint e ≡ true → cap.object ≡ e → Allows by side cap
      → StandsAt side web.net (members_at (hub_of doors by) side e) c
  stands by side t c e cap root of is same allows = search (rules, is_covered)

  pub all_found : IsClosed spec (IsFoundAt web.findings)
  all_found = record {
    by_own = λ c i cap there. (let x = slots.each c i cap there in record { value = x.0; is = x.1; known = x.2 });
    by_take = λ t c to cap root of is has. by_path to.object c cap ((is_covered c to of).back t root is) has;
    by_put = λ t c to cap root of is has. by_path c to.object cap ((is_covered c to of).there t root is) has;
    by_grant = λ t u c d to from cap roots of peer meet may has. by_path c d cap (through passages.Grant to.object c d
        (stands passages.Grant sides.Giving t c to.object to roots.root of meet.is refl may)
        (stands passages.Grant sides.Taking u d to.object from roots.peer_root peer meet.is meet.same meet.reads)) has;
    by_reply = λ t u c d to from cap roots of peer meet may back has. by_path d c cap (through passages.Reply to.object d c
        (stands passages.Reply sides.Giving u d to.object from roots.peer_root peer meet.is meet.same (meet.reads, back))
        (stands passages.Reply sides.Taking t c to.object to roots.root of meet.is refl may)) has;
  }

  pub all_alike : (classes : List ℕ) → classes ≡ web.net.classes → AreAlike spec web.findings classes
  all_alike classes is = rw is (record {
    as_many = s.is.ways.as_many_classes;
    known = λ c d v c_less d_less same known. known_along web.findings web.net v (goes_on v) c d
        (s.is.ways.joined c d (record { one = c_less; other = d_less; same = same })) known;
  })

pub root_below : (spec : Spec) (f : Found) (t c : ℕ) → IsFound spec f → HasRoot spec t c → c < length spec.entries
root_below spec f t c F root = is_at_below spec kinds.CNode c (quiet_cnode spec F.state F.quiet t c root)

pub cnode_below : (spec : Spec) (c : ℕ) → is_at spec kinds.CNode c ≡ true → c < length spec.entries
cnode_below spec c is = is_at_below spec kinds.CNode c is

pub begun : (spec : Spec) (web : Web) (doors : Doors) → IsSearch spec web doors 0 → GoesOn spec web 0 web doors
begun spec web doors s = record { search = s; later = later_same spec web.findings s.is.found }

pub goes_further : (spec : Spec) (a b c : Web) (done : ℕ) (doors full : Doors) → GoesOn spec a done b doors
    → GoesOn spec b (done + 1) c full → GoesOn spec a (done + 1) c full
goes_further spec a b c done doors full x y =
    record { search = y.search; later = later_then spec a.findings b.findings c.findings x.later y.later }
