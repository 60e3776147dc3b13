-- Words for the contracts of private functions alone: the three rules over two labels that meet at a third, one by the
-- first edge of the rule and its partner by another. No public call cites them.
use Rattle.std.specs.Prelude.{◌≡◌, ◌⊎◌, ◌<◌, ◌≤◌, ℕ, true, List, length, slice_get, Option, Some, None}
use Rattle.cert_check.specs.Below.{AtMost, Authority, Before, Edge, edge, has}
use Rattle.std.specs.List.{Contains}
use Rattle.cap_model.specs.Classes.{OutAlike}
use Rattle.authorities.specs.declared.authority.Authority.TheVariants as authorities
use Rattle.cert_check.specs.Violations.{BreaksGrant, BreaksCall, BreaksGrantBack}
use Rattle.cert_check.specs.declared.meetings.Meeting.{Meeting}
use Rattle.cert_check.specs.declared.meetings.Meeting.TheVariants.{Grant, Call, GrantBack}
use Rattle.cert_check.specs.declared.partners.Met.{Met}
use Rattle.cert_check.specs.declared.violation.Violation.{Violation}

abbrev pub Breaks : Meeting → List Edge → Violation → Type 0
Breaks Grant cert v = BreaksGrant cert v
Breaks Call cert v = BreaksCall cert v
Breaks GrantBack cert v = BreaksGrantBack cert v

-- the authority of the first edge
abbrev pub first_authority : Meeting → Authority
first_authority Grant = authorities.Grant
first_authority Call = authorities.Call
first_authority GrantBack = authorities.Call

-- the authority of the partner's edge
abbrev pub partner_authority : Meeting → Authority
partner_authority Grant = authorities.Receive
partner_authority Call = authorities.Receive
partner_authority GrantBack = authorities.GrantBack

-- the partner's edge
abbrev pub partner_of : Meeting → Violation → Edge
partner_of Grant v = edge v.lack.from authorities.Receive v.first.to
partner_of Call v = v.second
partner_of GrantBack v = edge v.second.from authorities.GrantBack v.first.to

-- a violation whose first edge goes out of s, with this edge of the partner
pub record With (rule : Meeting) (cert : List Edge) (s : ℕ) (other : Edge) (v : Violation) : Type 0 where
  pub breaks : Breaks rule cert v
  pub from : v.first.from ≡ s
  pub partner : partner_of rule v ≡ other

-- lesser edges stand before the place, and no others
pub record IsFirstNotBefore (edges : List Edge) (e : Edge) (at : ℕ) : Type 0 where
  pub below : (k : ℕ) (d : Edge) → k < at → slice_get edges k ≡ Some d → Before d e
  pub above : (k : ℕ) (d : Edge) → at ≤ k → slice_get edges k ≡ Some d → AtMost e d

-- lesser edges stand before low, and from high on there are no lesser ones
pub record Halved (edges : List Edge) (e : Edge) (low : ℕ) (high : ℕ) : Type 0 where
  pub bound : high ≤ length edges
  pub below : (k : ℕ) (d : Edge) → k < low → slice_get edges k ≡ Some d → Before d e
  pub above : (k : ℕ) (d : Edge) → high ≤ k → slice_get edges k ≡ Some d → AtMost e d

-- by the rule m may stand for l: of the call rule where they are one label, of the others where the same edges other than
-- Reply go out of both
abbrev pub Alike : Meeting → List Edge → ℕ → ℕ → Type 0
Alike Grant cert l m = OutAlike cert l m
Alike Call cert l m = l ≡ m
Alike GrantBack cert l m = OutAlike cert l m

-- a lesser label may stand for l, and it is the least that may
pub record IsLed (rule : Meeting) (cert : List Edge) (l : ℕ) : Type 0 where
  pub label : ℕ
  pub less : label < l
  pub alike : Alike rule cert l label
  pub least : (m : ℕ) → Alike rule cert l m → label ≤ m

-- the labels of a partner's edge: the one that it goes to, and the one that it goes out of
abbrev pub end_of : Edge → ℕ × ℕ
end_of e = (e.to, e.from)

-- the edges of partners with these labels are there
abbrev pub AreMet : Meeting → List Edge → List (ℕ × ℕ) → Type 0
AreMet rule cert ends = (p : ℕ × ℕ) → Contains ends p → has cert (edge p.1 (partner_authority rule) p.0) ≡ true

-- the partners of the places from low up to high, but for those for which a lesser label may stand
pub record HasPartners (rule : Meeting) (cert : List Edge) (low : ℕ) (high : ℕ) (ends : List (ℕ × ℕ)) : Type 0 where
  pub each : (k : ℕ) (d : Edge) → low ≤ k → k < high → slice_get cert k ≡ Some d → d.authority ≡ partner_authority rule
      → Contains ends (end_of d) ⊎ IsLed rule cert d.from
  pub only : AreMet rule cert ends

-- a violation by one of these partners
pub record OfPartners (rule : Meeting) (cert : List Edge) (ends : List (ℕ × ℕ)) (v : Violation) : Type 0 where
  pub breaks : Breaks rule cert v
  pub among : Contains ends (end_of (partner_of rule v))

-- the partners at a label stand from low up to high, and no others
pub record IsReach (ends : List (ℕ × ℕ)) (to : ℕ) (low : ℕ) (high : ℕ) : Type 0 where
  pub bound : high ≤ length ends
  pub order : low ≤ high
  pub inside : (k : ℕ) (p : ℕ × ℕ) → low ≤ k → k < high → slice_get ends k ≡ Some p → p.0 ≡ to
  pub all : (k : ℕ) (p : ℕ × ℕ) → slice_get ends k ≡ Some p → p.0 ≡ to → (low ≤ k) × (k < high)

-- each label that meets the second edge meets the first
abbrev pub MeetToo : List (ℕ × ℕ) → Met → Met → Type 0
MeetToo ends last met = (r : ℕ) → Contains ends (met.edge.to, r) → Contains ends (last.edge.to, r)

-- the last first edge goes out of the same label, and what meets this one meets that one
abbrev pub GoesLike : List (ℕ × ℕ) → Option Met → Met → Type 0
GoesLike ends None met = ⊥
GoesLike ends (Some last) met = (last.edge.from ≡ met.edge.from) × MeetToo ends last met
