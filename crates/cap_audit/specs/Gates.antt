-- Words for the contracts of private functions alone: who may call at an endpoint, and which threads have a root.
use Rattle.std.specs.Prelude.{◌≡◌, ◌≢◌, ◌<◌, ◌⊎◌, ◌∷◌, ◌++◌, ◌==◌, if◌then◌else◌, ℕ, true, List, [], Option, Some, None, length, slice_get, slice_index, slice_index_or}
use Rattle.cap_audit.specs.Below.{Cap, Contains, Edge, IsKept, Reply, Spec, Step, edge, has, label_of}
use Rattle.cap_machine.specs.declared.step.Step.TheVariants as steps
use Rattle.cap_audit.specs.Search.{Found, HoldsAt, held_by}
use Rattle.cap_audit.specs.Spread.{HasRoot, HaveRoots, Meet, MayCall}
use Rattle.cap_audit.specs.declared.found.Held.{Held}
use Rattle.cap_audit.specs.declared.found.Pair.{Pair}
use Rattle.cap_audit.specs.Gains.{Gains, IsAll, Made, OfSome}
use Rattle.cap_audit.specs.Kinds.{AreMembers, AreStandIns}
use Rattle.cap_audit.specs.Rows.{row_at, with_more}
use Rattle.cap_audit.specs.Picks.{is_wanted, pick_of}
use Rattle.cap_audit.specs.declared.gates.Place.{Place}
use Rattle.cap_audit.specs.declared.gates.Party.{Party}
use Rattle.cap_audit.specs.declared.picks.Pick.{Pick}
use Rattle.cap_audit.specs.declared.picks.Wanted.TheVariants as wants

-- the first may call the second
pub record AreParties (spec : Spec) (f : Found) (caller : Party) (listener : Party) : Type 0 where
  pub roots : HaveRoots spec caller.thread listener.thread caller.node listener.node
  pub to : Cap
  pub from : Cap
  pub own : HoldsAt f caller.node caller.number to
  pub listens : HoldsAt f listener.node listener.number from
  pub meet : Meet spec to from
  pub may : MayCall to

-- the edge of the call, or that of its save
abbrev pub OfParties : List ℕ → Party → Party → Edge → Type 0
OfParties labels caller listener e =
    (e ≡ edge (label_of labels listener.thread) Reply (label_of labels caller.thread))
    ⊎ (e ≡ edge (label_of labels listener.node) Reply (label_of labels caller.thread))

-- a call, whose reply is saved at the next number there and given by it
abbrev pub call_steps : List ℕ → Party → Party → List Step
call_steps nexts caller listener =
    steps.Call caller.thread caller.number listener.thread listener.number
    ∷ (steps.Save listener.thread ∷ (steps.ReplyTo listener.thread (slice_index nexts listener.node) None ∷ []))

-- the threads before n by their roots
pub record AreRosters (spec : Spec) (rosters : List (List ℕ)) (n : ℕ) : Type 0 where
  pub as_many : length rosters ≡ length spec.entries
  pub rooted : (c t : ℕ) → Contains (row_at rosters c) t → HasRoot spec t c
  pub every : (c t : ℕ) → t < n → HasRoot spec t c → Contains (row_at rosters c) t

-- the queue has the door, whose capability is to the endpoint o and may call
pub record MayCallAt (spec : Spec) (f : Found) (o : ℕ) (door : Pair) : Type 0 where
  pub cap : Cap
  pub place : ℕ
  pub there : slice_get f.queue place ≡ Some door
  pub is : slice_get f.values door.held.value ≡ Some cap
  pub wanted : is_wanted spec wants.Caller cap ≡ true
  pub to : cap.object ≡ o

-- those who may call at each endpoint and stand for themselves, by the first n pairs of the queue
pub record AreGates (spec : Spec) (f : Found) (heads : List ℕ) (gates : List (List Pair)) (n : ℕ) : Type 0 where
  pub as_many : length gates ≡ length spec.entries
  pub may : (o : ℕ) (door : Pair) → Contains (row_at gates o) door → MayCallAt spec f o door
  pub every : (k : ℕ) (pair : Pair) (cap : Cap) → k < n → slice_get f.queue k ≡ Some pair
      → slice_get f.values pair.held.value ≡ Some cap
      → is_wanted spec wants.Caller cap ≡ true → slice_index_or heads pair.node pair.node ≡ pair.node
      → (door : Pair) × Contains (row_at gates cap.object) door × (door.node ≡ pair.node)

-- at the first place is a capability with which those with that root may call those with the root of the second
pub record Meets (spec : Spec) (f : Found) (at : Place) (peer : Place) : Type 0 where
  pub to : Cap
  pub from : Cap
  pub own : HoldsAt f at.node at.number to
  pub listens : HoldsAt f peer.node peer.number from
  pub meet : Meet spec to from
  pub may : MayCall to

-- what a call of t to another thread u makes, whose root is d
abbrev pub OfCall : List ℕ → ℕ → ℕ → ℕ → Edge → Type 0
OfCall labels u d t e = (t ≢ u) × ((e ≡ edge (label_of labels u) Reply (label_of labels t))
    ⊎ (e ≡ edge (label_of labels d) Reply (label_of labels t)))

-- what the calls of those with the root c to those with the root d make
abbrev pub Between : List ℕ → List (List ℕ) → ℕ → ℕ → Edge → Type 0
Between labels rosters c d e = OfSome (λ (u : ℕ). OfSome (OfCall labels u d) (row_at rosters c)) (row_at rosters d) e

-- the same of those for whom c stands to those for whom d stands
abbrev pub OfKinds : List ℕ → List (List ℕ) → List (List ℕ) → ℕ → ℕ → Edge → Type 0
OfKinds labels rosters members c d e = OfSome (λ (y : ℕ). OfSome (λ (x : ℕ). Between labels rosters x y) (row_at members c))
    (row_at members d) e

-- what the calls to those for whom the CNode of a pair stands make, where it stands for itself and its capability listens
pub record OfListening (spec : Spec) (labels : List ℕ) (f : Found) (heads : List ℕ) (rosters : List (List ℕ))
    (members : List (List ℕ)) (gates : List (List Pair)) (pair : Pair)
    (e : Edge) : Type 0 where
  pub cap : Cap
  pub is : slice_get f.values pair.held.value ≡ Some cap
  pub itself : slice_index_or heads pair.node pair.node ≡ pair.node
  pub wanted : is_wanted spec wants.Listener cap ≡ true
  pub by : OfSome (λ (door : Pair). OfKinds labels rosters members door.node pair.node) (row_at gates cap.object) e

-- all that calls are shown by
pub record AreReady (spec : Spec) (f : Found) (heads : List ℕ) (rosters : List (List ℕ)) (members : List (List ℕ))
    (gates : List (List Pair)) : Type 0 where
  pub kept : IsKept spec
  pub all : IsAll spec f
  pub alike : AreStandIns f heads
  pub as_many : length heads ≡ length spec.entries
  pub are_rosters : AreRosters spec rosters (length spec.entries)
  pub are_members : AreMembers heads members (length heads)
  pub are_gates : AreGates spec f heads gates (length f.queue)

-- by capabilities of these values one CNode calls another
pub record MeetBy (spec : Spec) (f : Found) (value : ℕ) (peer_value : ℕ) : Type 0 where
  pub to : Cap
  pub from : Cap
  pub is : slice_get f.values value ≡ Some to
  pub peer_is : slice_get f.values peer_value ≡ Some from
  pub meet : Meet spec to from
  pub may : MayCall to

-- of those that have met, all calls are shown
pub record AreMet (labels : List ℕ) (rosters : List (List ℕ)) (members : List (List ℕ)) (met : List (List ℕ))
    (edges : List Edge) : Type 0 where
  pub shown : (c d : ℕ) (e : Edge) → Contains (row_at met c) d → OfKinds labels rosters members c d e → e.from ≢ e.to
      → has edges e ≡ true

-- the report gains the edges, and more have met
pub record Greets (rosters : List (List ℕ)) (members : List (List ℕ)) (P : Edge → Type 0) (m : Made) (new : Made)
    (met : List (List ℕ)) : Type 0 where
  pub gains : Gains P m new
  pub are : AreMet m.labels rosters members met new.edges

-- at these places the nodes have the value
pub record ArePlaces (f : Found) (nodes : List ℕ) (value : ℕ) (places : List Place) : Type 0 where
  pub stand : (at : Place) → Contains places at → Contains (held_by f at.node) (record { value = value; number = at.number })
  pub every : (c : ℕ) (held : Held) → Contains nodes c → Contains (held_by f c) held → held.value ≡ value
      → (at : Place) × Contains places at × (at.node ≡ c)

-- the capability of a pair by which it may call, where its CNode stands for itself
abbrev pub caller_of : Spec → Found → List ℕ → Pair → Option Pick
caller_of spec f heads pair = if slice_index_or heads pair.node pair.node == pair.node then pick_of spec f wants.Caller
    pair.held else None

-- the thread in the list of its root, where it has one
abbrev pub enrolled : List (List ℕ) → Option ℕ → ℕ → List (List ℕ)
enrolled rosters None t = rosters
enrolled rosters (Some c) t = with_more rosters c t

-- the door in the list of its endpoint, where it has a pick
abbrev pub gated : List (List Pair) → Pair → Option Pick → List (List Pair)
gated gates door None = gates
gated gates door (Some pick) = with_more gates pick.cap.object door
