-- What a step is tested for, in the order of answers: each test with the answer where it fails.
--
-- First Waiting and NoRoot; for `reply` and `save` NoPending, for a reply with a copy NoGrant; for each own number in
-- written order NoCap, WrongKind, NoRight, where a saved reply that stands in place of a capability is WrongKind; then
-- the peer's; at last PeerNoRoot for a caller without a root. For `take`, the number in the other CNode comes after the
-- own one. For `replyto` with a copy NoGrant comes after the answers of its own number. Behind a test that fails it
-- doesn't matter what stands there.
use Rattle.std.specs.Prelude.{ℕ, ◌==◌, Bool, true, false, not, ◌&&◌, ◌||◌, cond, List, [], ◌∷◌, ◌++◌, Option, Some, None}
use Rattle.cap_machine.specs.Below.{Cap, Capability, Content, Pending, SavedReply, Spec, State, content_in, is_at, is_space_root, thread_at}
use Rattle.std.specs.Option.{is_some, unwrap_or}
use Rattle.cap_model.specs.declared.kind.Kind.TheVariants as kinds
use Rattle.cap_machine.specs.declared.step.Step.{Step}
use Rattle.cap_machine.specs.declared.step.Step.TheVariants.{Take, Put, Grant, Call, Reply, SetCspace, SetVspace, Map, Bind, Drop, Save, ReplyTo}
use Rattle.cap_machine.specs.declared.step.Why.{Why}
use Rattle.cap_machine.specs.declared.step.Why.TheVariants.{Waiting, NoRoot, NoPending, NoGrant, NoCap, WrongKind, NoRight, SamePeer, PeerWaiting, PeerNoRoot, PeerNoCap, PeerWrongKind, PeerNoRight, OtherEndpoint}

-- the answer of the first test that fails
abbrev pub first_failing : List (Bool × Why) → Option Why
first_failing [] = None
first_failing (check ∷ checks) = cond check.0 (first_failing checks) (Some check.1)

abbrev pub is_capability : Option Content → Bool
is_capability (Some (Capability cap)) = true
is_capability _ = false

abbrev pub is_saved_reply : Option Content → Bool
is_saved_reply (Some (SavedReply reply)) = true
is_saved_reply _ = false

abbrev pub capability : Option Content → Cap
capability (Some (Capability cap)) = cap
capability _ = record { object = 0; rights = record { read = false; write = false; grant = false; reply = false }; badge = 0 }

abbrev pub no_reply : Pending
no_reply = record { caller = 0; grants = false }

abbrev pub saved_reply : Option Content → Pending
saved_reply (Some (SavedReply reply)) = reply
saved_reply _ = no_reply

-- the root of t, what t owes, the capability of c at i and the saved reply there; anything where there is none
abbrev pub root_of : State → ℕ → ℕ
root_of s t = unwrap_or (thread_at s t).root 0

abbrev pub owed_by : State → ℕ → Pending
owed_by s t = unwrap_or (thread_at s t).pending no_reply

abbrev pub cap_of : State → ℕ → ℕ → Cap
cap_of s c i = capability (content_in s c i)

abbrev pub reply_of : State → ℕ → ℕ → Pending
reply_of s c i = saved_reply (content_in s c i)

-- t acts
abbrev pub acts : State → ℕ → List (Bool × Why)
acts s t = (not (thread_at s t).waits, Waiting) ∷ (is_some (thread_at s t).root, NoRoot) ∷ []

-- c has at i a capability
abbrev pub has_cap : State → ℕ → ℕ → Why → Why → List (Bool × Why)
has_cap s c i none other = (is_some (content_in s c i), none) ∷ (is_capability (content_in s c i), other) ∷ []

-- a capability at the own number i of c
abbrev pub any : State → ℕ → ℕ → List (Bool × Why)
any s c i = has_cap s c i (NoCap i) (WrongKind i)

-- one to an object of this kind
abbrev pub own : (ℕ → Bool) → State → ℕ → ℕ → List (Bool × Why)
own kind s c i = any s c i ++ (kind (cap_of s c i).object, WrongKind i) ∷ []

-- t owes a reply
abbrev pub owes : State → ℕ → List (Bool × Why)
owes s t = (is_some (thread_at s t).pending, NoPending) ∷ []

-- a saved reply at the own number i of c
abbrev pub saves : State → ℕ → ℕ → List (Bool × Why)
saves s c i = (is_some (content_in s c i), NoCap i) ∷ (is_saved_reply (content_in s c i), WrongKind i) ∷ []

-- u is another thread, which runs and has a root
abbrev pub meets : State → ℕ → ℕ → List (Bool × Why)
meets s t u = (not (t == u), SamePeer) ∷ (not (thread_at s u).waits, PeerWaiting)
    ∷ (is_some (thread_at s u).root, PeerNoRoot) ∷ []

-- what d has at j listens to the endpoint e
abbrev pub hears : Spec → State → ℕ → ℕ → ℕ → List (Bool × Why)
hears spec s d j e =
    has_cap s d j (PeerNoCap j) (PeerWrongKind j)
    ++ ((is_at spec kinds.Endpoint (cap_of s d j).object, PeerWrongKind j)
    ∷ ((cap_of s d j).rights.read, PeerNoRight j)
    ∷ ((cap_of s d j).object == e, OtherEndpoint)
    ∷ [])

-- u listens to the endpoint e with what its root has at j
abbrev pub listens : Spec → State → ℕ → ℕ → ℕ → ℕ → List (Bool × Why)
listens spec s t u j e = meets s t u ++ hears spec s (root_of s u) j e

-- the caller can be given a copy
abbrev pub reachable : State → ℕ → List (Bool × Why)
reachable s caller = (is_some (thread_at s caller).root, PeerNoRoot) ∷ []

abbrev pub checks : Spec → State → Step → List (Bool × Why)
checks spec s (Take t i j r) =
    acts s t ++ (own (is_at spec kinds.CNode) s (root_of s t) i ++ any s (cap_of s (root_of s t) i).object j)
checks spec s (Put t i j r) =
    acts s t ++ (own (is_at spec kinds.CNode) s (root_of s t) i ++ any s (root_of s t) j)
checks spec s (Grant t i u j k r) =
    acts s t ++ (own (is_at spec kinds.Endpoint) s (root_of s t) i
    ++ (((cap_of s (root_of s t) i).rights.write && (cap_of s (root_of s t) i).rights.grant, NoRight i)
    ∷ (any s (root_of s t) k ++ listens spec s t u j (cap_of s (root_of s t) i).object)))
checks spec s (Call t i u j) =
    acts s t ++ (own (is_at spec kinds.Endpoint) s (root_of s t) i
    ++ ((
      (cap_of s (root_of s t) i).rights.write && ((cap_of s (root_of s t) i).rights.grant
          || (cap_of s (root_of s t) i).rights.reply),
      NoRight i,
    )
    ∷ listens spec s t u j (cap_of s (root_of s t) i).object))
checks spec s (Reply t None) = acts s t ++ owes s t
checks spec s (Reply t (Some copy)) =
    acts s t ++ (owes s t ++ (((owed_by s t).grants, NoGrant) ∷ (any s (root_of s t) copy.0 ++ reachable s (owed_by s t).caller)))
checks spec s (SetCspace t i j) =
    acts s t ++ (own (is_at spec kinds.Thread) s (root_of s t) i ++ own (is_at spec kinds.CNode) s (root_of s t) j)
checks spec s (SetVspace t i j) =
    acts s t ++ (own (is_at spec kinds.Thread) s (root_of s t) i ++ own (is_space_root spec) s (root_of s t) j)
checks spec s (Map t i j r) =
    acts s t ++ (own (is_at spec kinds.Frame) s (root_of s t) i ++ own (is_space_root spec) s (root_of s t) j)
checks spec s (Bind t i j) =
    acts s t ++ (own (is_at spec kinds.Irq) s (root_of s t) i
    ++ (own (is_at spec kinds.Notification) s (root_of s t) j ++ ((cap_of s (root_of s t) j).rights.write, NoRight j) ∷ []))
checks spec s (Drop t i) = acts s t ++ (is_some (content_in s (root_of s t) i), NoCap i) ∷ []
checks spec s (Save t) = acts s t ++ owes s t
checks spec s (ReplyTo t i None) = acts s t ++ saves s (root_of s t) i
checks spec s (ReplyTo t i (Some copy)) =
    acts s t ++ (saves s (root_of s t) i
    ++ (((reply_of s (root_of s t) i).grants, NoGrant)
    ∷ (any s (root_of s t) copy.0 ++ reachable s (reply_of s (root_of s t) i).caller)))
