-- What flows by the edges of a policy: each authority lets something pass along its edge, against it, both ways or not at
-- all.
--
--   both ways   Receive, SyncSend, Control
--   along       AsyncSend, Write, Handle
--   against     Read
--   not at all  Reset, Grant, Call, Reply, GrantBack
--
-- What a capability with Grant, Call or GrantBack does, it does to whom SyncSend or Receive of the same capability reaches,
-- and a reply goes to whom a call came from: so those four pass nothing that SyncSend and Receive don't.
use Rattle.std.specs.Prelude.{◌≡◌, ℕ, Bool, true, false, List}
use Rattle.flow_model.specs.Below.{AsyncSend, Authority, Control, Edge, Handle, Has, Read, Receive, SyncSend, Write}

-- whether something passes from the label that has the authority
abbrev pub goes_along : Authority → Bool
goes_along Receive = true
goes_along SyncSend = true
goes_along Control = true
goes_along AsyncSend = true
goes_along Write = true
goes_along Handle = true
goes_along _ = false

-- whether something passes to it
abbrev pub goes_against : Authority → Bool
goes_against Receive = true
goes_against SyncSend = true
goes_against Control = true
goes_against Read = true
goes_against _ = false

-- by one edge something passes from l to m
pub data Flows (policy : List Edge) (l : ℕ) (m : ℕ) : Type 0 where
  along : (a : Authority) → goes_along a ≡ true → Has policy l a m → Flows policy l m
  against : (a : Authority) → goes_against a ≡ true → Has policy m a l → Flows policy l m

-- nothing flows into the set: a label from which something passes to a label of the set is itself in the set
abbrev pub IsClosed : List Edge → (ℕ → Bool) → Type 0
IsClosed policy inside = (l m : ℕ) → Flows policy l m → inside m ≡ true → inside l ≡ true
