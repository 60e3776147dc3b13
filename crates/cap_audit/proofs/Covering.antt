-- Hubs and covered capabilities as more is found.
use Rattle.std.proofs.Common.{rules}
use Rattle.cap_audit.proofs.Common.{Allows, AreHubs, Attends, Cap, Contains, Covered, Covers, Doors, Fills, Gathering, Lanes, List, Member, Opens, Passage, Side, Some, Spec, StandsAt, Web, Widened, Widens, hub_of, is_at, kind_is}
use Rattle.cap_audit.proofs.Common.{members_at, row_at, true, ℕ, ◌≡◌}
use Rattle.cap_model.specs.declared.kind.Kind.TheVariants as kinds
use Rattle.cap_audit.specs.declared.hubs.Passage.TheVariants as passages
use Rattle.cap_audit.specs.declared.hubs.Side.TheVariants as sides
use Rattle.cap_audit.proofs.WaysMeeting.{hub_on, passes_on, widened_then}
use Rattle.cap_audit.proofs.Paths.{path_on}

pub stands_on : (side : Side) (net wide : Lanes) (members more : List Member) (c : ℕ) → Widens net wide
    → ((m : Member) → Contains members m → Contains more m) → StandsAt side net members c → StandsAt side wide more c
stands_on side net wide members more c widens fills at = search (rules, passes_on)

pub covered_on : (spec : Spec) (web new : Web) (doors full : Doors) (c : ℕ) (cap : Cap) → Opens spec web doors new full
    → Covered spec web.net doors c cap → Covered spec new.net full c cap
covered_on spec web new doors full c cap o h = record {
  there = λ t root is. path_on web.net new.net o.widened.widens c cap.object (h.there t root is);
  back = λ t root is. path_on web.net new.net o.widened.widens cap.object c (h.back t root is);
  stands = λ t by side root is allows.
      stands_on side web.net new.net (members_at (hub_of doors by) side cap.object)
      (members_at (hub_of full by) side cap.object) c
      o.widened.widens (o.fills by side cap.object) (h.stands t by side root is allows);
}

-- ways alone
pub widened_opens : (spec : Spec) (web new : Web) (doors : Doors) → AreHubs spec web doors → Widened spec web new
    → Opens spec web doors new doors
widened_opens spec web new doors H w = record {
  widened = w;
  hubs = λ by. hub_on spec web new by (hub_of doors by) w (H by);
  fills = λ by side e m there. there;
}

-- a root that came to all four
module _ (spec : Spec) (member : Member) (is : is_at spec kinds.Endpoint member.cap.object ≡ true) (w0 w1 w2 w3 w4 : Web)
    (doors : Doors) (g1 g2 r1 r2 : Gathering) (H : AreHubs spec w0 doors)
    (a : Attends spec w0 doors.grants passages.Grant sides.Giving member w1 g1)
    (b : Attends spec w1 g1 passages.Grant sides.Taking member w2 g2)
    (c : Attends spec w2 doors.replies passages.Reply sides.Giving member w3 r1)
    (d : Attends spec w3 r1 passages.Reply sides.Taking member w4 r2) where
  abbrev full : Doors
  full = record { grants = g2; replies = r2 }

  c_d : Widened spec w2 w4
  c_d = widened_then spec w2 w3 w4 c.widened d.widened

  b_d : Widened spec w1 w4
  b_d = widened_then spec w1 w2 w4 b.widened c_d

  opens_all : Opens spec w0 doors w4 full
  opens_all = record { widened = widened_then spec w0 w1 w4 a.widened b_d; hubs = hubs; fills = fills } where
    hubs : AreHubs spec w4 full
    hubs passages.Grant = hub_on spec w2 w4 passages.Grant g2 c_d b.is
    hubs passages.Reply = d.is

    fills : (by : Passage) → Fills (hub_of doors by) (hub_of full by)
    fills passages.Grant side e m there = b.fills side e m (a.fills side e m there)
    fills passages.Reply side e m there = d.fills side e m (c.fills side e m there)

  all_stand : (by : Passage) (side : Side) → Allows by side member.cap
      → StandsAt side w4.net (members_at (hub_of full by) side member.cap.object) member.node
  all_stand passages.Grant sides.Giving allows =
      stands_on sides.Giving w1.net w4.net (row_at g1.givers member.cap.object) (row_at g2.givers member.cap.object) member.node
      b_d.widens (b.fills sides.Giving member.cap.object) (a.stands allows)
  all_stand passages.Grant sides.Taking allows =
      stands_on sides.Taking w2.net w4.net (row_at g2.takers member.cap.object) (row_at g2.takers member.cap.object) member.node
      c_d.widens (λ m there. there) (b.stands allows)
  all_stand passages.Reply sides.Giving allows =
      stands_on sides.Giving w3.net w4.net (row_at r1.givers member.cap.object) (row_at r2.givers member.cap.object) member.node
      d.widened.widens (d.fills sides.Giving member.cap.object) (c.stands allows)
  all_stand passages.Reply sides.Taking allows = d.stands allows

  no_cnode : is_at spec kinds.CNode member.cap.object ≡ true → ⊥
  no_cnode cnode = search (rules, kind_is)

  pub attended : Covers spec w0 doors member.node member.cap w4 full
  attended = search (rules, opens_all, no_cnode, all_stand)
