-- Why a label is assigned an authority over another, read off the flat system:
--
--   direct  the connector table gives an end that is the label's the authority over an object of the other label
--   call    Reply: the label has the `to` end of an RPC, and the other label a `from` end of it
--   bind    AsyncSend: a device may signal a connection, where one label handles its interrupt and has a `from` end there
--   lock    AsyncSend: a device may signal a label that handles its interrupt and has a lock
--
-- An end is its leaf's domain's, and at a device the device's own. An object has its connection's label. Frames of a
-- device and its interrupt have that of the device at the connection's other end. Read and Write go by the end's access.
use Rattle.std.specs.Prelude.{◌≡◌, ◌≢◌, ℕ, true}
use Rattle.arch_policy.specs.Below.{AsyncSend, Edge, From, Interrupt, NoObject, Notification, ObjectKind, OfDevice, OfEndpoint, OfFrames, OfIrq, OfNotification, Reply, Rpc, To, setting_of}
use Rattle.arch_policy.specs.Tables.{Tables, connection_label, domain_label, leaf_label}
use Rattle.arch_policy.specs.Ends.{EndAt, IsEnd, LockAt}
use Rattle.arch_policy.specs.Gives.{gives, leaves, opposite}

-- the label at the other end of the connection
pub record AtOtherEnd (t : Tables) (x : EndAt t.flat) (label : ℕ) : Type 0 where
  pub at : EndAt t.flat
  pub same : at.place ≡ x.place
  pub role : at.end.role ≡ opposite x.end.role
  pub label_is : label ≡ leaf_label t at.end.leaf

-- the label of the end's object of this kind
abbrev pub LeadsTo : (t : Tables) → EndAt t.flat → ObjectKind → ℕ → Type 0
LeadsTo t x OfEndpoint label = label ≡ connection_label t x.place
LeadsTo t x OfNotification label = label ≡ connection_label t x.place
LeadsTo t x OfFrames label = label ≡ connection_label t x.place
LeadsTo t x OfDevice label = AtOtherEnd t x label
LeadsTo t x OfIrq label = AtOtherEnd t x label
LeadsTo t x NoObject label = ⊥

pub record DirectReason (t : Tables) (e : Edge) : Type 0 where
  pub at : EndAt t.flat
  pub object : ObjectKind
  pub given : gives at.connection.connector at.end.role object e.authority ≡ true
  pub left : leaves (setting_of t.settled at.place at.number) e.authority ≡ true
  pub from : e.from ≡ leaf_label t at.end.leaf
  pub to : LeadsTo t at object e.to

pub record CallReason (t : Tables) (e : Edge) : Type 0 where
  pub caller : EndAt t.flat
  pub calls : IsEnd Rpc From caller
  pub server : EndAt t.flat
  pub serves : IsEnd Rpc To server
  pub same : server.place ≡ caller.place
  pub from : e.from ≡ leaf_label t server.end.leaf
  pub authority : e.authority ≡ Reply
  pub to : e.to ≡ leaf_label t caller.end.leaf

-- the label handles the interrupt of the device with this label
pub record Handles (t : Tables) (label : ℕ) (device : ℕ) : Type 0 where
  pub handler : EndAt t.flat
  pub handles : IsEnd Interrupt To handler
  pub source : EndAt t.flat
  pub interrupts : IsEnd Interrupt From source
  pub same : source.place ≡ handler.place
  pub label_is : label ≡ leaf_label t handler.end.leaf
  pub device_is : device ≡ leaf_label t source.end.leaf

pub record BindReason (t : Tables) (e : Edge) : Type 0 where
  pub label : ℕ
  pub handles : Handles t label e.from
  pub signaller : EndAt t.flat
  pub signals : IsEnd Notification From signaller
  pub same : label ≡ leaf_label t signaller.end.leaf
  pub authority : e.authority ≡ AsyncSend
  pub to : e.to ≡ connection_label t signaller.place

pub record LockReason (t : Tables) (e : Edge) : Type 0 where
  pub handles : Handles t e.to e.from
  pub lock : LockAt t.source t.flat
  pub has : e.to ≡ domain_label t lock.domain
  pub authority : e.authority ≡ AsyncSend

pub data Reason (t : Tables) (e : Edge) : Type 0 where
  by_direct : DirectReason t e → Reason t e
  by_call : CallReason t e → Reason t e
  by_bind : BindReason t e → Reason t e
  by_lock : LockReason t e → Reason t e

-- an edge between different labels that has at least one reason
pub record IsReasoned (t : Tables) (e : Edge) : Type 0 where
  pub differ : e.from ≢ e.to
  pub reason : Reason t e
