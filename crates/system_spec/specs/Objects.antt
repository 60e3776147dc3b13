-- What each part of a system is. A capability names the place of its object.
--
--   CNode         the least size for its slots; the use at place n stands in slot n + 1
--   thread        the buffer's address, its program's entry, its stack's end, its component's name, its leaf's priority; its
--                 domain's CNode and space root, and the frame that is mapped at its buffer
--   interrupt     its connection's notification
--   page table    what is mapped under it
--   frame         its address and its fill
--
-- An end's capability has the rights of the first row that the connector table gives the end, one to an interrupt has none,
-- and a `from` end has the settled badge.
use Rattle.std.specs.Prelude.{ℕ, ◌+◌, ◌==◌, leb, if◌then◌else◌, List, [], ◌∷◌, length, Option, Some, slice_get, slice_index_or, option_map}
use Rattle.system_spec.specs.Below.{Connector, FlatConnection, FrameInfo, Handler, Interrupt, Object, OfEnd, OwnLock, Page, Rights, Rpc, Settled, SlotUse, ThreadPlace, end_of, find, gather, option_map_or, setting_of}
use Rattle.adl_ast.specs.declared.composition.Role.{Role}
use Rattle.adl_ast.specs.declared.composition.Role.TheVariants.{From, To}
use Rattle.cap_model.specs.declared.cap.Cap.{Cap}
use Rattle.cap_model.specs.declared.object.Object.TheVariants.{Endpoint, Notification, CNode, Thread, Frame, Irq}
use Rattle.cap_model.specs.declared.object.Tcb.{Tcb}
use Rattle.conn_rules.specs.declared.rule.RuleRow.{RuleRow}
use Rattle.conn_rules.specs.Row.{NONE, RW, rows_of}
use Rattle.system_spec.specs.declared.part.What.{What}
use Rattle.system_spec.specs.declared.part.What.TheVariants.{CNodeOf, ThreadOf, EndpointOf, NotificationOf, LockOf, IrqOf, TableOf, FrameOf}
use Rattle.system_spec.specs.Bits.{bits_for}
use Rattle.system_spec.specs.Parts.{place, tables_at}
use Rattle.system_spec.specs.Tables.{Tables, irq_number, leaf_entry, leaf_name, pages_at, priority, threads_at, uses_at}

abbrev pub cap : ℕ → Rights → ℕ → Cap
cap o r b = record { object = o; rights = r; badge = b }

-- ---- capabilities of a domain

-- what the capability of an end of connection k leads to: an endpoint for an RPC, and else a notification
abbrev pub joint_by : ℕ → Connector → What
joint_by k Rpc = EndpointOf k
joint_by k _ = NotificationOf k

abbrev pub joint : Tables → ℕ → What
joint t k = option_map_or (λ c. joint_by k c.connector) (slice_get t.flat.connections k) (NotificationOf k)

abbrev pub first_rights : List RuleRow → Rights
first_rights [] = NONE
first_rights (row ∷ rows) = row.rights

-- the rights of the connector table
abbrev pub end_rights : Connector → Role → Rights
end_rights connector role = first_rights (rows_of connector role)

abbrev pub rights_at : Tables → ℕ → ℕ → Rights
rights_at t k n = option_map_or (λ e. end_rights e.0 e.1.role) (end_of t.flat k n) NONE

abbrev pub role_badge : Role → ℕ → ℕ
role_badge From badge = badge
role_badge To badge = 0

abbrev pub settled_badge : Settled → ℕ → ℕ → ℕ
settled_badge settled k n = option_map_or (λ s. s.badge) (setting_of settled k n) 0

abbrev pub badge_at : Tables → ℕ → ℕ → ℕ
badge_at t k n = option_map_or (λ e. role_badge e.1.role (settled_badge t.settled k n)) (end_of t.flat k n) 0

-- of a use, whose lock stands at this place
abbrev pub use_cap_at : Tables → ℕ → SlotUse → Cap
use_cap_at t at (OfEnd k m) = cap (place t (joint t k)) (rights_at t k m) (badge_at t k m)
use_cap_at t at (Handler k m) = cap (place t (IrqOf k)) NONE 0
use_cap_at t at (OwnLock leaf m) = cap at RW 0

-- of use n of domain d
abbrev pub use_cap : Tables → ℕ → ℕ → SlotUse → Cap
use_cap t d n u = use_cap_at t (place t (LockOf d n)) u

abbrev pub slots_at : Tables → ℕ → List (ℕ × Cap)
slots_at t d = gather (λ n u. (n + 1, use_cap t d n u) ∷ []) (uses_at t d)

-- ---- threads

-- the frame that is mapped at an address
abbrev pub frame_at : List Page → ℕ → Option ℕ
frame_at pages at = option_map (λ p. p.frame) (find (λ p. p.vaddr == at) pages)

abbrev pub buffer_cap : Tables → ℕ → ℕ → Option Cap
buffer_cap t d at = option_map (λ f. cap (place t (FrameOf f)) RW 0) (frame_at (pages_at t d) at)

abbrev pub tcb : Tables → ℕ → ThreadPlace → Tcb
tcb t d x = record {
  addr = x.buffer;
  ip = leaf_entry t x.leaf;
  sp = x.sp;
  prio = priority t x.leaf;
  elf = Some (leaf_name t x.leaf);
  cspace = Some (place t (CNodeOf d));
  vspace = Some (place t (TableOf d 0));
  buffer = buffer_cap t d x.buffer;
}

-- ---- all

abbrev pub frame_object : FrameInfo → Object
frame_object f = Frame f.paddr f.fill

abbrev pub object : Tables → What → Object
object t (CNodeOf d) = CNode (bits_for (length (uses_at t d))) (slots_at t d)
object t (ThreadOf d i) = option_map_or (λ x. Thread (tcb t d x)) (slice_get (threads_at t d) i) Endpoint
object t (EndpointOf k) = Endpoint
object t (NotificationOf k) = Notification
object t (LockOf d n) = Notification
object t (IrqOf k) = Irq (Some (place t (NotificationOf k)))
object t (TableOf d j) = slice_index_or (tables_at t (place t (TableOf d 0)) (place t (FrameOf 0)) d) j Endpoint
object t (FrameOf f) = option_map_or frame_object (slice_get t.spaces.frames f) Endpoint

-- ---- interrupt lines

-- the number of an interrupt and the place of its object
abbrev pub line_by : Tables → ℕ → FlatConnection → Connector → List (ℕ × ℕ)
line_by t k c Interrupt = (irq_number t.settled k c, place t (IrqOf k)) ∷ []
line_by t k c _ = []

-- in front of the first line whose number is no less
abbrev pub put_line : ℕ × ℕ → List (ℕ × ℕ) → List (ℕ × ℕ)
put_line x [] = x ∷ []
put_line x (y ∷ ys) = if leb x.0 y.0 then x ∷ y ∷ ys else y ∷ put_line x ys

abbrev pub by_number : List (ℕ × ℕ) → List (ℕ × ℕ)
by_number [] = []
by_number (x ∷ xs) = put_line x (by_number xs)

abbrev pub line : Tables → ℕ → FlatConnection → List (ℕ × ℕ)
line t k c = line_by t k c c.connector

abbrev pub lines : Tables → List (ℕ × ℕ)
lines t = by_number (gather (line t) t.flat.connections)
