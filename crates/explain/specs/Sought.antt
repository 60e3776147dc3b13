-- What explaining an edge looks for, end by end: the first end of each kind tells a part of a reason.
use Rattle.std.specs.Prelude.{◌≡◌, ◌<◌, ◌≤◌, ◌^◌, ℕ, Bool, true, false, ◌&&◌, ◌==◌, List, length, Option, Some, None, slice_get}
use Rattle.std.specs.List.{list_any}
use Rattle.adl_ast.specs.declared.component.Member.{Member}
use Rattle.adl_ast.specs.declared.composition.Role.{Role}
use Rattle.adl_ast.specs.declared.composition.Role.TheVariants.{From, To}
use Rattle.adl_meaning.specs.declared.connector.Connector.TheVariants.{Rpc, Notification, Interrupt}
use Rattle.adl_meaning.specs.declared.flat.FlatConnection.{FlatConnection}
use Rattle.adl_meaning.specs.declared.flat.FlatEnd.{FlatEnd}
use Rattle.adl_meaning.specs.declared.flat.Leaf.{Leaf}
use Rattle.arch_policy.specs.Ends.{EndAt, LockAt}
use Rattle.arch_policy.specs.Tables.{Tables, connection_label, domain_label, leaf_label}
use Rattle.arch_policy.specs.Triples.{end_edges, signal_edges}
use Rattle.cap_model.specs.Edges.{edge}
use Rattle.cap_model.specs.Tables.{has}
use Rattle.authorities.specs.declared.authority.Authority.{Authority}
use Rattle.authorities.specs.declared.authority.Authority.TheVariants.{AsyncSend, Reply}
use Rattle.cap_model.specs.declared.edge.Edge.{Edge}
use Rattle.conn_rules.specs.Row.{same_connector, same_role}
use Rattle.cspace_layout.specs.Members.{is_lock, members_at}
use Rattle.explain.specs.declared.search.Found.{Found}
use Rattle.explain.specs.declared.search.Sought.{Sought}
use Rattle.explain.specs.declared.search.Sought.TheVariants.{Given, Caller, Server, Handler, Signaller, LockHandler}
use Rattle.explain.specs.Explained.{AtMost, numbers}

abbrev pub is_reply : Authority → Bool
is_reply Reply = true
is_reply _ = false

abbrev pub is_async : Authority → Bool
is_async AsyncSend = true
is_async _ = false

-- whether the end has this role and this label
abbrev pub is_side : Tables → Role → ℕ → FlatEnd → Bool
is_side t role label x = same_role x.role role && leaf_label t x.leaf == label

abbrev pub has_side : Tables → Role → ℕ → FlatConnection → Bool
has_side t role label c = list_any (is_side t role label) c.ends

-- whether the connection is one at which such an end may stand
abbrev pub opens : Tables → Edge → Sought → ℕ → FlatConnection → Bool
opens t e Given k c = true
opens t e Caller k c = is_reply e.authority && (same_connector c.connector Rpc && has_side t To e.from c)
opens t e (Server j) k c = k == j
opens t e Handler k c = is_async e.authority && (same_connector c.connector Interrupt && has_side t From e.from c)
opens t e (Signaller label) k c = same_connector c.connector Notification && connection_label t k == e.to
opens t e LockHandler k c = is_async e.authority && (same_connector c.connector Interrupt && has_side t From e.from c)

-- whether the end is one of these
abbrev pub fits : Tables → Edge → Sought → ℕ → FlatConnection → ℕ → FlatEnd → Bool
fits t e Given k c n x = has (end_edges t k c n x) e
fits t e Caller k c n x = is_side t From e.to x
fits t e (Server j) k c n x = is_side t To e.from x
fits t e Handler k c n x = same_role x.role To && has (signal_edges t) (edge (leaf_label t x.leaf) AsyncSend e.to)
fits t e (Signaller label) k c n x = is_side t From label x
fits t e LockHandler k c n x = is_side t To e.to x

pub record IsSought (t : Tables) (e : Edge) (s : Sought) (x : EndAt t.flat) : Type 0 where
  pub opened : opens t e s x.place x.connection ≡ true
  pub fitting : fits t e s x.place x.connection x.number x.end ≡ true

abbrev pub found : Tables → ℕ → ℕ → FlatEnd → Found
found t k n x = record { place = k; number = n; label = leaf_label t x.leaf }

-- the first that fits among the ends of a connection
abbrev pub IsFirstOn : Tables → Edge → Sought → ℕ → FlatConnection → Option Found → Type 0
IsFirstOn t e s k c None = (n : ℕ) (x : FlatEnd) → slice_get c.ends n ≡ Some x → fits t e s k c n x ≡ true → ⊥
IsFirstOn t e s k c (Some f) =
    (n : ℕ) × (x : FlatEnd) × (slice_get c.ends n ≡ Some x) × (fits t e s k c n x ≡ true) × (f ≡ found t k n x)
    × ((m : ℕ) (y : FlatEnd) → slice_get c.ends m ≡ Some y → fits t e s k c m y ≡ true → n ≤ m)

-- the same, where the connection is one at which such an end may stand
abbrev pub IsFirstAt : Tables → Edge → Sought → ℕ → FlatConnection → Option Found → Type 0
IsFirstAt t e s k c None = opens t e s k c ≡ true → IsFirstOn t e s k c None
IsFirstAt t e s k c (Some f) = (opens t e s k c ≡ true) × IsFirstOn t e s k c (Some f)

-- the first of all ends that is one of these
pub record IsLeastEnd (t : Tables) (e : Edge) (s : Sought) (f : Found) : Type 0 where
  pub at : EndAt t.flat
  pub is : f ≡ found t at.place at.number at.end
  pub sought : IsSought t e s at
  pub least : (y : EndAt t.flat) → IsSought t e s y → AtMost (numbers at) (numbers y)

abbrev pub IsFirstEnd : Tables → Edge → Sought → Option Found → Type 0
IsFirstEnd t e s None = (y : EndAt t.flat) → IsSought t e s y → ⊥
IsFirstEnd t e s (Some f) = IsLeastEnd t e s f

-- the first lock of the domain with this label
pub record IsLeastLock (t : Tables) (label : ℕ) (p : ℕ × ℕ) : Type 0 where
  pub lock : LockAt t.source t.flat
  pub is : p ≡ (lock.leaf, lock.member)
  pub own : domain_label t lock.domain ≡ label
  pub least : (y : LockAt t.source t.flat) → domain_label t y.domain ≡ label → AtMost p (y.leaf, y.member)

abbrev pub IsFirstLock : Tables → ℕ → Option (ℕ × ℕ) → Type 0
IsFirstLock t label None = (y : LockAt t.source t.flat) → domain_label t y.domain ≡ label → ⊥
IsFirstLock t label (Some p) = IsLeastLock t label p

-- the first lock among members
abbrev pub IsFirstMember : List Member → Option ℕ → Type 0
IsFirstMember members None = (m : ℕ) (x : Member) → slice_get members m ≡ Some x → is_lock x ≡ true → ⊥
IsFirstMember members (Some n) =
    (x : Member) × (slice_get members n ≡ Some x) × (is_lock x ≡ true)
    × ((m : ℕ) (y : Member) → slice_get members m ≡ Some y → is_lock y ≡ true → n ≤ m)

-- the first lock of a leaf, where its domain has this label
abbrev pub IsFirstOfLeaf : Tables → ℕ → Leaf → Option ℕ → Type 0
IsFirstOfLeaf t label leaf None =
    (d : ℕ) → leaf.domain ≡ Some d → domain_label t d ≡ label → IsFirstMember (members_at t.source leaf.component) None
IsFirstOfLeaf t label leaf (Some n) =
    (d : ℕ) × (leaf.domain ≡ Some d) × (domain_label t d ≡ label) × IsFirstMember (members_at t.source leaf.component) (Some n)

-- what a search asks of the tables, and of the table of who signals on which notification
pub record CanSearch (t : Tables) (signals : List Edge) : Type 0 where
  pub leaves : length t.flat.leaves < 2 ^ 32
  pub connections : length t.flat.connections < 2 ^ 32
  pub ends : (k : ℕ) (c : FlatConnection) → slice_get t.flat.connections k ≡ Some c → length c.ends < 2 ^ 32
  pub members : (l : ℕ) (x : Leaf) → slice_get t.flat.leaves l ≡ Some x → length (members_at t.source x.component) < 2 ^ 32
  pub told : (e : Edge) → has signals e ≡ has (signal_edges t) e
