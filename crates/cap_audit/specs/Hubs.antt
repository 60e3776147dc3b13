-- Words for the contracts of private functions alone: where threads meet at endpoints. At each endpoint, for grants and for
-- replies, what the roots among the givers hold goes to the roots among the takers. A root that ways join in both
-- directions with one that is there already needn't be put in.
use Rattle.std.specs.Prelude.{◌≡◌, ℕ, true, List, length}
use Rattle.cap_audit.specs.Below.{Cap, Contains, Spec, is_at}
use Rattle.cap_audit.specs.Rows.{row_at, with_more}
use Rattle.cap_audit.specs.Search.{Found, HoldsAt}
use Rattle.cap_audit.specs.Spread.{HasRoot, MayGrant, MayCall}
use Rattle.cap_audit.specs.Nets.{Lanes}
use Rattle.cap_audit.specs.Ways.{Path, Widened}
use Rattle.cap_audit.specs.declared.found.Course.{Course}
use Rattle.cap_audit.specs.declared.found.Course.TheVariants as courses
use Rattle.cap_audit.specs.declared.hubs.Member.{Member}
use Rattle.cap_audit.specs.declared.hubs.Passage.{Passage}
use Rattle.cap_audit.specs.declared.hubs.Passage.TheVariants as passages
use Rattle.cap_audit.specs.declared.hubs.Side.{Side}
use Rattle.cap_audit.specs.declared.hubs.Side.TheVariants as sides
use Rattle.cap_audit.specs.declared.ways.Web.{Web}
use Rattle.cap_model.specs.declared.kind.Kind.TheVariants as kinds

-- what a capability to the endpoint is to allow
abbrev pub Allows : Passage → Side → Cap → Type 0
Allows passages.Grant sides.Giving cap = MayGrant cap
Allows passages.Grant sides.Taking cap = cap.rights.read ≡ true
Allows passages.Reply sides.Giving cap = (cap.rights.read ≡ true) × (cap.rights.grant ≡ true)
Allows passages.Reply sides.Taking cap = MayCall cap

-- by what a giver's capabilities pass to a taker
abbrev pub course_of : Passage → Member → Member → Course
course_of passages.Grant giver taker = courses.Grant giver.thread giver.number taker.thread taker.number
course_of passages.Reply giver taker = courses.Reply taker.thread taker.number giver.thread giver.number

abbrev pub opposite : Side → Side
opposite sides.Giving = sides.Taking
opposite sides.Taking = sides.Giving

-- ways lead from a giver to another, or to a taker from another
abbrev pub Passes : Side → Lanes → ℕ → ℕ → Type 0
Passes sides.Giving net c d = Path net c d
Passes sides.Taking net c d = Path net d c

-- a thread's root that holds, at this number, a capability to the endpoint e that allows it
pub record IsMember (spec : Spec) (f : Found) (e : ℕ) (passage : Passage) (side : Side) (member : Member) : Type 0 where
  pub root : HasRoot spec member.thread member.node
  pub at : HoldsAt f member.node member.number member.cap
  pub is : is_at spec kinds.Endpoint member.cap.object ≡ true
  pub of : member.cap.object ≡ e
  pub allows : Allows passage side member.cap

-- what contracts see of hubs, by the places of the endpoints
pub record Gathering : Type 0 where
  pub givers : List (List Member)
  pub takers : List (List Member)

abbrev pub side_of : Gathering → Side → List (List Member)
side_of hub sides.Giving = hub.givers
side_of hub sides.Taking = hub.takers

abbrev pub members_at : Gathering → Side → ℕ → List Member
members_at hub side e = row_at (side_of hub side) e

abbrev pub with_member : Gathering → Side → Member → Gathering
with_member hub sides.Giving member = record hub { givers = with_more hub.givers member.cap.object member }
with_member hub sides.Taking member = record hub { takers = with_more hub.takers member.cap.object member }

-- ways lead from each giver to each taker
pub record IsHub (spec : Spec) (web : Web) (passage : Passage) (hub : Gathering) : Type 0 where
  pub members : (side : Side) (e : ℕ) (member : Member) → Contains (members_at hub side e) member
      → IsMember spec web.findings e passage side member
  pub met : (side : Side) (e : ℕ) (member other : Member) → Contains (members_at hub side e) member
      → Contains (members_at hub (opposite side) e) other → Passes side web.net member.node other.node
  pub as_many : (side : Side) → length (side_of hub side) ≡ length spec.entries

-- nobody left
abbrev pub Fills : Gathering → Gathering → Type 0
Fills hub new = (side : Side) (e : ℕ) (member : Member) → Contains (members_at hub side e) member
    → Contains (members_at new side e) member

-- ways lead from c to a giver, or from a taker to c
pub record StandsAt (side : Side) (net : Lanes) (members : List Member) (c : ℕ) : Type 0 where
  pub member : Member
  pub there : Contains members member
  pub path : Passes side net c member.node

-- ways lead from the giver to each of these, or to the taker from each of these
pub record Joins (spec : Spec) (web : Web) (side : Side) (member : Member) (others : List Member) (new : Web) : Type 0 where
  pub widened : Widened spec web new
  pub paths : (other : Member) → Contains others other → Passes side new.net member.node other.node

-- the root came to the hub of its endpoint, where its capability allows it
pub record Attends (spec : Spec) (web : Web) (hub : Gathering) (passage : Passage) (side : Side) (member : Member) (new : Web)
    (full : Gathering) : Type 0 where
  pub widened : Widened spec web new
  pub is : IsHub spec new passage full
  pub fills : Fills hub full
  pub stands : Allows passage side member.cap → StandsAt side new.net (members_at full side member.cap.object) member.node
