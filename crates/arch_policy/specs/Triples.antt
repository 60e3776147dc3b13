-- The edges that have a reason, as a list: of each end by its rows of the connector table; of each two ends of an RPC; and of
-- each two ends of an interrupt, with each end by which its handler signals, and with the handler's lock. An edge may stand
-- twice; one within a label is left out.
use Rattle.std.specs.Prelude.{ℕ, Bool, ◌&&◌, ◌==◌, not, if◌then◌else◌, List, [], ◌∷◌, ◌++◌, Option, Some, None}
use Rattle.arch_policy.specs.Below.{AsyncSend, Authority, Connector, Edge, FlatConnection, FlatEnd, From, Handle, Interrupt, NoObject, Notification, ObjectKind, OfDevice, OfEndpoint, OfFrames, OfIrq, OfNotification, Reply, Role, Rpc, To, edge}
use Rattle.arch_policy.specs.Below.{filter, gather, is_lock, list_any, members_at, rows_of, same_connector, same_role, set_has, setting_of}
use Rattle.authorities.specs.Authorities.{authorities}
use Rattle.adl_meaning.specs.declared.settled.EndSetting.{EndSetting}
use Rattle.conn_rules.specs.declared.rule.RuleRow.{RuleRow}
use Rattle.arch_policy.specs.Gives.{leaves, opposite}
use Rattle.arch_policy.specs.Tables.{Tables, connection_label, domain_label, leaf_label}
use Rattle.arch_policy.specs.Where.{where_true}

-- ---- direct

-- the labels at the ends of the connection in this role
abbrev pub labels_in_role : Tables → Role → List FlatEnd → List ℕ
labels_in_role t r ends = gather (λ n e. where_true (same_role e.role r) (leaf_label t e.leaf)) ends

-- the labels of an end's objects of this kind
abbrev pub targets : Tables → ℕ → FlatConnection → Role → ObjectKind → List ℕ
targets t k c r OfEndpoint = connection_label t k ∷ []
targets t k c r OfNotification = connection_label t k ∷ []
targets t k c r OfFrames = connection_label t k ∷ []
targets t k c r OfDevice = labels_in_role t (opposite r) c.ends
targets t k c r OfIrq = labels_in_role t (opposite r) c.ends
targets t k c r NoObject = []

-- whether a row gives end n of connection k the authority, as far as its access goes
abbrev pub row_gives : Tables → ℕ → ℕ → RuleRow → Authority → Bool
row_gives t k n row a = set_has row.authorities.bits a && leaves (setting_of t.settled k n) a

-- the edges from one label to another with the authorities that the row gives an end with this setting
abbrev pub given_with : Option EndSetting → RuleRow → ℕ → ℕ → List Edge
given_with o row l m = gather (λ i a. where_true (set_has row.authorities.bits a && leaves o a) (edge l a m)) authorities

abbrev pub given_edges : Tables → ℕ → ℕ → RuleRow → ℕ → ℕ → List Edge
given_edges t k n row l m = given_with (setting_of t.settled k n) row l m

abbrev pub row_edges : Tables → ℕ → FlatConnection → ℕ → FlatEnd → RuleRow → List Edge
row_edges t k c n e row = gather (λ i m. given_edges t k n row (leaf_label t e.leaf) m) (targets t k c e.role row.object)

abbrev pub end_edges : Tables → ℕ → FlatConnection → ℕ → FlatEnd → List Edge
end_edges t k c n e = gather (λ i row. row_edges t k c n e row) (rows_of c.connector e.role)

abbrev pub direct_edges : Tables → List Edge
direct_edges t = gather (λ k c. gather (λ n e. end_edges t k c n e) c.ends) t.flat.connections

-- ---- of two ends of one connection

-- an edge with the authority from each label to each other
abbrev pub crossed : List ℕ → Authority → List ℕ → List Edge
crossed ls a ms = gather (λ i l. gather (λ j m. edge l a m ∷ []) ms) ls

-- of a connection of this connector, from the labels of the `to` ends to those of the `from` ends
abbrev pub crossed_at : Tables → Connector → Authority → FlatConnection → List Edge
crossed_at t connector a c = if same_connector c.connector connector then crossed (labels_in_role t To c.ends) a
    (labels_in_role t From c.ends) else []

abbrev pub crossed_edges : Tables → Connector → Authority → List Edge
crossed_edges t connector a = gather (λ k c. crossed_at t connector a c) t.flat.connections

-- servers may reply to their callers
abbrev pub reply_edges : Tables → List Edge
reply_edges t = crossed_edges t Rpc Reply

-- ---- of interrupts

-- who handles the interrupt of which device
abbrev pub handle_edges : Tables → List Edge
handle_edges t = crossed_edges t Interrupt Handle

-- who signals on which notification, end by end
abbrev pub signals_at : Tables → ℕ → FlatConnection → FlatEnd → List Edge
signals_at t k c e = where_true (same_connector c.connector Notification && same_role e.role From)
    (edge (leaf_label t e.leaf) AsyncSend (connection_label t k))

abbrev pub signal_edges : Tables → List Edge
signal_edges t = gather (λ k c. gather (λ n e. signals_at t k c e) c.ends) t.flat.connections

-- a domain may signal itself by a lock
abbrev pub lock_edge : Tables → Option ℕ → Bool → List Edge
lock_edge t None b = []
lock_edge t (Some d) b = where_true b (edge (domain_label t d) AsyncSend (domain_label t d))

abbrev pub lock_edges : Tables → List Edge
lock_edges t = gather (λ l leaf. lock_edge t leaf.domain (list_any is_lock (members_at t.source leaf.component))) t.flat.leaves

-- the device may signal what the handler of its interrupt may signal
abbrev pub bound_edges : List Edge → List Edge → List Edge
bound_edges handles signals = gather (λ i h. gather (λ j s. where_true (h.from == s.from) (edge h.to AsyncSend s.to))
    signals) handles

-- ---- all

abbrev pub leads_out : Edge → Bool
leads_out e = not (e.from == e.to)

-- those within a label too
abbrev pub reasoned_edges : Tables → List Edge
reasoned_edges t = direct_edges t ++ (reply_edges t ++ bound_edges (handle_edges t) (signal_edges t ++ lock_edges t))

abbrev pub triples : Tables → List Edge
triples t = filter leads_out (reasoned_edges t)
