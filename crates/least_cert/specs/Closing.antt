-- Words for the contracts of private functions alone: edges in the making of the least certificate.
use Rattle.std.specs.Prelude.{◌≡◌, ◌≢◌, ◌<◌, ◌≤◌, ◌+◌, ◌^◌, ◌⊎◌, ◌++◌, ◌∷◌, ◌==◌, ◌||◌, ℕ, true, false, List, [], Option, Some, None, if◌then◌else◌, length, ltb, slice_get, slice_index_or, take}
use Rattle.authorities.specs.Authorities.{number_of}
use Rattle.cap_model.specs.Edges.{edge, same_edge}
use Rattle.cap_model.specs.Tables.{Has, has}
use Rattle.authorities.specs.declared.authority.Authority.{Authority}
use Rattle.authorities.specs.declared.authority.Authority.TheVariants.{Receive, AsyncSend, Grant, Control, Call, Reply, GrantBack, Handle}
use Rattle.cap_model.specs.declared.edge.Edge.{Edge}
use Rattle.cap_model.specs.Auth.{Held, Structural}
use Rattle.cap_model.specs.State.{boot}
use Rattle.cap_model.specs.declared.spec.Spec.{Spec}
use Rattle.least_cert.specs.LeastCertificate.{InLeast}

-- the edge in the other direction
abbrev pub turn : Edge → Edge
turn e = edge e.to e.authority e.from

-- edges in the order found, the same by both ends, and which label gives all that it has to which: s Grant r where r has
-- what s has. Labels that have what the others have share one leader, and edges are known of leaders alone
pub record Closure : Type 0 where
  pub spec : Spec
  pub labels : List ℕ
  pub queue : List Edge
  pub known : List Edge
  pub turned : List Edge
  pub gives : List Edge
  pub leaders : List ℕ

-- the leader of the labels that a label stands with, itself where it stands alone
abbrev pub leader_at : List ℕ → ℕ → ℕ
leader_at leaders l = slice_index_or leaders l l

-- those with the one leader get the other
abbrev pub led_by : ℕ → ℕ → ℕ → ℕ
led_by from to leader = if leader == from then to else leader

-- the edge as its leader's; a reply stays its label's own
abbrev pub lead : List ℕ → Edge → Edge
lead leaders e = if number_of e.authority == 9 then e else edge (leader_at leaders e.from) e.authority e.to

-- the edge is known of its label's leader
abbrev pub Knows : Closure → Edge → Type 0
Knows c e = has c.queue (lead c.leaders e) ≡ true

-- the leaders are one, or the first gives to a label that the second leads
abbrev pub Flowing : Closure → ℕ → ℕ → Type 0
Flowing c s r = (s ≡ r) ⊎ ((k : ℕ) × Has c.gives s Grant k × (leader_at c.leaders k ≡ r))

-- so it is while both lead themselves
abbrev pub Gifted : Closure → ℕ → ℕ → Type 0
Gifted c s r = leader_at c.leaders s ≡ s → leader_at c.leaders r ≡ r → Flowing c s r

-- r has each edge of s but replies, where the rules hold
abbrev pub Flows : Spec → List ℕ → ℕ → ℕ → Type 0
Flows spec labels s r = (a : Authority) (x : ℕ) → a ≢ Reply → InLeast spec labels s a x → InLeast spec labels r a x

abbrev pub IsLess : Edge → Type 0
IsLess e = (e.from < 2 ^ 32) × (e.to < 2 ^ 32)

-- the edge is of the least certificate
abbrev pub OfLeast : Closure → Edge → Type 0
OfLeast c e = InLeast c.spec c.labels e.from e.authority e.to

-- each edge is of the least certificate, and each gift is one by the rules
pub record IsSound (c : Closure) : Type 0 where
  pub known_is : (e : Edge) → has c.known e ≡ has c.queue e
  pub turned_is : (e : Edge) → has c.turned (turn e) ≡ has c.queue e
  pub as_many : length c.queue ≡ length c.known
  pub few : length c.known ≤ 262144
  pub least : (e : Edge) → has c.queue e ≡ true → OfLeast c e
  pub flows : (s r : ℕ) → Has c.gives s Grant r → Flows c.spec c.labels s r
  pub less : (e : Edge) → has c.queue e ≡ true → IsLess e
  pub gives_less : (e : Edge) → has c.gives e ≡ true → IsLess e
  pub leads : (l : ℕ) → Flows c.spec c.labels l (leader_at c.leaders l)
  pub follows : (l : ℕ) → Flows c.spec c.labels (leader_at c.leaders l) l
  pub flat : (l : ℕ) → leader_at c.leaders (leader_at c.leaders l) ≡ leader_at c.leaders l
  pub carried : (e : Edge) → has c.queue e ≡ true → Knows c e
  pub few_leaders : length c.leaders ≤ 2 ^ 32

-- what s has in the list is known of r
abbrev pub Copied : List Edge → Closure → ℕ → ℕ → Type 0
Copied old new s r = (a : Authority) (x : ℕ) → a ≢ Reply → Has old s a x → Knows new (edge r a x)

-- it goes on so; what was known of those that give is copied; labels that have one leader keep one
pub record Grows (c : Closure) (new : Closure) : Type 0 where
  pub spec_is : new.spec ≡ c.spec
  pub labels_is : new.labels ≡ c.labels
  pub sound : IsSound new
  pub more : List Edge
  pub longer : new.queue ≡ c.queue ++ more
  pub given : (s r : ℕ) → Has c.gives s Grant r → Has new.gives s Grant r
  pub copied : (s r : ℕ) → Has new.gives s Grant r → (Has c.gives s Grant r) ⊎ Copied c.queue new s r
  pub together : (l : ℕ) → leader_at new.leaders (leader_at c.leaders l) ≡ leader_at new.leaders l
  pub led_before : (l : ℕ) → leader_at new.leaders l ≡ l → leader_at c.leaders l ≡ l

pub record Adds (edge : Edge) (c : Closure) (new : Closure) : Type 0 where
  pub grows : Grows c new
  pub leaders_is : new.leaders ≡ c.leaders
  pub there : Knows new edge
  pub only : (e : Edge) → has new.queue e ≡ true → (has c.queue e ≡ true) ⊎ (lead c.leaders edge ≡ e)

pub record AddsAll (edges : List Edge) (c : Closure) (new : Closure) : Type 0 where
  pub grows : Grows c new
  pub leaders_is : new.leaders ≡ c.leaders
  pub there : (e : Edge) → has edges e ≡ true → Knows new e
  pub only : (e : Edge) → has new.queue e ≡ true
      → (has c.queue e ≡ true) ⊎ ((d : Edge) × (has edges d ≡ true) × (lead c.leaders d ≡ e))

-- what the giver has, the taker has
pub record Copies (giver : ℕ) (taker : ℕ) (c : Closure) (new : Closure) : Type 0 where
  pub grows : Grows c new
  pub leaders_is : new.leaders ≡ c.leaders
  pub copied : Copied new.queue new giver taker

pub record Gives (giver : ℕ) (taker : ℕ) (c : Closure) (new : Closure) : Type 0 where
  pub grows : Grows c new
  pub given : Gifted new giver taker

pub record GivesAll (gifts : List Edge) (c : Closure) (new : Closure) : Type 0 where
  pub grows : Grows c new
  pub given : (g : Edge) → has gifts g ≡ true → Gifted new g.from g.to

-- one leader leads both labels
pub record Joins (a : ℕ) (b : ℕ) (c : Closure) (new : Closure) : Type 0 where
  pub grows : Grows c new
  pub one : leader_at new.leaders a ≡ leader_at new.leaders b

-- the edge stands at the end, and nothing else is other
pub record Puts (edge : Edge) (c : Closure) (new : Closure) : Type 0 where
  pub less : IsLess edge
  pub spec_is : new.spec ≡ c.spec
  pub labels_is : new.labels ≡ c.labels
  pub queue_is : new.queue ≡ c.queue ++ edge ∷ []
  pub gives_is : new.gives ≡ c.gives
  pub leaders_is : new.leaders ≡ c.leaders
  pub known_is : (e : Edge) → has new.known e ≡ (has c.known e || same_edge edge e)
  pub as_many : has c.known edge ≡ false → length new.known ≡ length c.known + 1
  pub turned_is : (e : Edge) → has new.turned e ≡ (has c.turned e || same_edge (turn edge) e)

-- there are places for the labels up to one, and each has the leader that it had
pub record Widens (label : ℕ) (leaders : List ℕ) (new : List ℕ) : Type 0 where
  pub within : label < length new
  pub few : length new ≤ 2 ^ 32
  pub same : (l : ℕ) → leader_at new l ≡ leader_at leaders l

-- those with the one leader have the other
pub record IsRelabeled (from : ℕ) (to : ℕ) (leaders : List ℕ) (new : List ℕ) : Type 0 where
  pub few : length new ≤ 2 ^ 32
  pub led : (l : ℕ) → leader_at new l ≡ led_by from to (leader_at leaders l)

-- so it is with the leaders, which alone are other
pub record Relabels (to : ℕ) (from : ℕ) (c : Closure) (new : Closure) : Type 0 where
  pub is : new ≡ record c { leaders = new.leaders }
  pub leaders_are : IsRelabeled from to c.leaders new.leaders

-- the gift is there, and nothing else is other
pub record PutsGift (gift : Edge) (c : Closure) (new : Closure) : Type 0 where
  pub is : new ≡ record c { gives = new.gives }
  pub gives_is : (e : Edge) → has new.gives e ≡ (has c.gives e || same_edge gift e)

-- a gift by the rules
pub record IsGift (c : Closure) (g : Edge) : Type 0 where
  pub grant : g.authority ≡ Grant
  pub flows : Flows c.spec c.labels g.from g.to

-- ---- what an edge asks for

-- the edge as another label's, where it passes on
abbrev pub passed_to : ℕ → Edge → Option Edge
passed_to r e = if number_of e.authority == 9 then None else Some (edge r e.authority e.to)

-- an edge from where another goes to the label, or from the label to there, where these are two
abbrev pub from_other : Authority → ℕ → Edge → Option Edge
from_other a l p = if p.to == l then None else Some (edge p.to a l)

abbrev pub to_other : Authority → ℕ → Edge → Option Edge
to_other a l p = if p.to == l then None else Some (edge l a p.to)

-- the edges of the list out of a label with an authority
pub record AreOut (known : List Edge) (label : ℕ) (a : Authority) (edges : List Edge) : Type 0 where
  pub only : (e : Edge) → has edges e ≡ true → Has known label a e.to
  pub every : (m : ℕ) → Has known label a m → Has edges label a m

-- those to a label with an authority, each turned
pub record AreTo (known : List Edge) (label : ℕ) (a : Authority) (edges : List Edge) : Type 0 where
  pub only : (e : Edge) → has edges e ≡ true → Has known e.to a label
  pub every : (l : ℕ) → Has known l a label → Has edges label a l

-- an edge that the giver has, as the taker's
pub record IsCopy (c : Closure) (giver : ℕ) (taker : ℕ) (e : Edge) : Type 0 where
  pub other : e.authority ≢ Reply
  pub from_is : e.from ≡ taker
  pub known : Has c.queue giver e.authority e.to

pub record AreCopies (c : Closure) (giver : ℕ) (taker : ℕ) (edges : List Edge) : Type 0 where
  pub only : (e : Edge) → has edges e ≡ true → IsCopy c giver taker e
  pub every : (e : Edge) → IsCopy c giver taker e → has edges e ≡ true

-- the edge as that of all to whom its label gives
pub record ArePassed (c : Closure) (f : Edge) (edges : List Edge) : Type 0 where
  pub only : (e : Edge) → has edges e ≡ true → OfLeast c e
  pub every : (r : ℕ) → f.authority ≢ Reply → Has c.gives f.from Grant r → Has edges r f.authority f.to

-- the signals that it asks for, with an edge that is known
pub record AreAsked (c : Closure) (f : Edge) (edges : List Edge) : Type 0 where
  pub only : (e : Edge) → has edges e ≡ true → OfLeast c e
  pub of_handle : f.authority ≡ Handle → (n : ℕ) → Has c.queue f.from AsyncSend n → f.to ≢ n → Has edges f.to AsyncSend n
  pub of_send : f.authority ≡ AsyncSend → (d : ℕ) → Has c.queue f.from Handle d → d ≢ f.to → Has edges d AsyncSend f.to

-- the gifts that it asks for, with an edge that is known
pub record AreGifts (c : Closure) (f : Edge) (gifts : List Edge) : Type 0 where
  pub only : (g : Edge) → has gifts g ≡ true → IsGift c g
  pub of_grant : f.authority ≡ Grant → (r : ℕ) → Has c.queue r Receive f.to → f.from ≢ r → Has gifts f.from Grant r
  pub of_receive : f.authority ≡ Receive → (s : ℕ) → Has c.queue s Grant f.to → s ≢ f.from → Has gifts s Grant f.from
  pub of_call : f.authority ≡ Call → (r : ℕ) → Has c.queue r GrantBack f.to → f.from ≢ r → Has gifts r Grant f.from
  pub of_grant_back : f.authority ≡ GrantBack → (s : ℕ) → Has c.queue s Call f.to → s ≢ f.from → Has gifts f.from Grant s

-- where it is a Control edge, its ends have one leader
pub record JoinsEnds (f : Edge) (c : Closure) (new : Closure) : Type 0 where
  pub grows : Grows c new
  pub one : f.authority ≡ Control → leader_at new.leaders f.from ≡ leader_at new.leaders f.to

-- all that it asks for is there
pub record Looks (c : Closure) (f : Edge) (new : Closure) : Type 0 where
  pub grows : Grows c new
  pub passed : (r : ℕ) → f.authority ≢ Reply → Has c.gives f.from Grant r → Knows new (edge r f.authority f.to)
  pub of_handle : f.authority ≡ Handle → (n : ℕ) → Has c.queue f.from AsyncSend n → f.to ≢ n → Knows new (edge f.to AsyncSend n)
  pub of_send : f.authority ≡ AsyncSend → (d : ℕ) → Has c.queue f.from Handle d → d ≢ f.to → Knows new (edge d AsyncSend f.to)
  pub of_control : f.authority ≡ Control → leader_at new.leaders f.from ≡ leader_at new.leaders f.to
  pub of_grant : f.authority ≡ Grant → (r : ℕ) → Has c.queue r Receive f.to → f.from ≢ r → Gifted new f.from r
  pub of_receive : f.authority ≡ Receive → (s : ℕ) → Has c.queue s Grant f.to → s ≢ f.from → Gifted new s f.from
  pub of_call : f.authority ≡ Call → (r : ℕ) → Has c.queue r GrantBack f.to → f.from ≢ r → Gifted new r f.from
  pub of_grant_back : f.authority ≡ GrantBack → (s : ℕ) → Has c.queue s Call f.to → s ≢ f.from → Gifted new f.from s

-- what the rules ask for because of edges of the first list is there, but replies
pub record IsClosedFor (first : List Edge) (c : Closure) : Type 0 where
  pub control : (l m : ℕ) → Has first l Control m → leader_at c.leaders l ≡ leader_at c.leaders m
  pub passed : (s r : ℕ) → Has c.gives s Grant r → Copied first c s r
  pub grant : (s e r : ℕ) → Has first s Grant e → Has first r Receive e → s ≢ r → Gifted c s r
  pub grant_back : (s e r : ℕ) → Has first s Call e → Has first r GrantBack e → s ≢ r → Gifted c r s
  pub bind : (s d n : ℕ) → Has first s Handle d → Has first s AsyncSend n → d ≢ n → Knows c (edge d AsyncSend n)

-- ---- the edges of all labels

-- an edge that stays where there are n places: a reply, or one of a label that has no place
abbrev pub stays : ℕ → Edge → Option Edge
stays n e = if number_of e.authority == 9 then Some e else if ltb e.from n then None else Some e

pub record IsSpread (c : Closure) (edges : List Edge) : Type 0 where
  pub only : (e : Edge) → has edges e ≡ true → Knows c e
  pub every : (e : Edge) → Knows c e → has edges e ≡ true
  pub less : (e : Edge) → has edges e ≡ true → IsLess e

-- the Receive edge, turned
abbrev pub receiver : Edge → Option Edge
receiver e = if number_of e.authority == 0 then Some (turn e) else None

-- the Receive edges of a list, each turned
pub record AreReceivers (edges : List Edge) (turned : List Edge) : Type 0 where
  pub only : (e : Edge) → has turned e ≡ true → (e.authority ≡ Receive) × Has edges e.to Receive e.from
  pub every : (r x : ℕ) → Has edges r Receive x → Has turned x Receive r

-- a reply that the edge asks for, with one of the turned edges
pub record IsAnswer (turned : List Edge) (f : Edge) (e : Edge) : Type 0 where
  pub call : f.authority ≡ Call
  pub reply : e.authority ≡ Reply
  pub to_is : e.to ≡ f.from
  pub receives : Has turned f.to Receive e.from
  pub differ : e.from ≢ f.from

-- the replies that calls of the list ask for
pub record AreReplies (c : Closure) (edges : List Edge) (replies : List Edge) : Type 0 where
  pub only : (e : Edge) → has replies e ≡ true → (e.authority ≡ Reply) × OfLeast c e
  pub every : (s x r : ℕ) → Has edges s Call x → Has edges r Receive x → s ≢ r → Has replies r Reply s

pub record IsCertificate (c : Closure) (cert : List Edge) : Type 0 where
  pub edges : List Edge
  pub replies : List Edge
  pub spread : IsSpread c edges
  pub answers : AreReplies c edges replies
  pub same : (e : Edge) → has cert e ≡ (has edges e || has replies e)

-- ---- the boot state

-- the edges of the boot state are there
pub record HasBoot (c : Closure) : Type 0 where
  pub held : (l : ℕ) (a : Authority) (m : ℕ) → Held c.spec c.labels (boot c.spec) l a m → Knows c (edge l a m)
  pub structural : (l : ℕ) (a : Authority) (m : ℕ) → Structural c.spec c.labels (boot c.spec) l a m → l ≢ m → Knows c (edge l a m)

-- nothing is known yet
pub record IsEmpty (spec : Spec) (labels : List ℕ) (c : Closure) : Type 0 where
  pub spec_is : c.spec ≡ spec
  pub labels_is : c.labels ≡ labels
  pub queue_is : c.queue ≡ []
  pub known_is : c.known ≡ []
  pub turned_is : c.turned ≡ []
  pub gives_is : c.gives ≡ []
  pub leaders_is : c.leaders ≡ []

-- all that the boot state asks for is there
pub record Begins (spec : Spec) (labels : List ℕ) (c : Closure) : Type 0 where
  pub spec_is : c.spec ≡ spec
  pub labels_is : c.labels ≡ labels
  pub sound : IsSound c
  pub has_boot : HasBoot c

-- nothing more is asked for
pub record Closes (c : Closure) (new : Closure) : Type 0 where
  pub grows : Grows c new
  pub closed : IsClosedFor new.queue new

-- the edges at places before n were put in
pub record AddsSome (edges : List Edge) (n : ℕ) (c : Closure) (new : Closure) : Type 0 where
  pub grows : Grows c new
  pub leaders_is : new.leaders ≡ c.leaders
  pub there : (k : ℕ) (e : Edge) → k < n → slice_get edges k ≡ Some e → Knows new e
  pub only : (e : Edge) → has new.queue e ≡ true
      → (has c.queue e ≡ true) ⊎ ((d : Edge) × (has edges d ≡ true) × (lead c.leaders d ≡ e))

-- those labels give
pub record GivesSome (gifts : List Edge) (n : ℕ) (c : Closure) (new : Closure) : Type 0 where
  pub grows : Grows c new
  pub given : (k : ℕ) (g : Edge) → k < n → slice_get gifts k ≡ Some g → Gifted new g.from g.to

-- the edges at places before n were looked at
pub record LooksAt (n : ℕ) (c : Closure) (new : Closure) : Type 0 where
  pub grows : Grows c new
  pub within : n ≤ length new.queue
  pub closed : IsClosedFor (take n new.queue) new
