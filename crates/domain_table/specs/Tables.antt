-- The tables of a domain: its slots, its threads, its windows, and its pages. What each slot, thread and window is of is said by
-- the map, the capabilities and the registers of threads by the spec.
--
--   domain c: cnode_0, pd_0
--
--   | slot | object | rights | badge | of |
--   |---|---|---|---|---|
--   | 0x1 | ep_0 | WP | 1 | c.e k |
--
--   | thread | object | entry | stack | buffer |
--   |---|---|---|---|---|
--   | c | tcb_0 | 0x10000 | 0x40002000 | 0x40003000 |
--
--   | window | address | bytes |
--   |---|---|---|
--
--   | page | frame | rights | holds |
--   |---|---|---|---|
--   | 0x10000 | frame_0 | R | Client 0x1000 2048 |
use Rattle.std.specs.Prelude.{ℕ, ◌==◌, Bool, false, if◌then◌else◌, List, [], ◌∷◌, ◌++◌, codes, decimal, find, map, Option, Some, None, slice_get}
use Rattle.domain_table.specs.Below.{CNode, Cap, Endpoint, Frame, Irq, Notification, Object, Pages, Spec, Thread, bytes_eq, flat_map, hex_text, name_at, object_at, option_and_then, option_map_or, position, rights_word, together}
use Rattle.adl_meaning.specs.declared.flat.Flat.{Flat}
use Rattle.adl_meaning.specs.declared.flat.FlatEnd.{FlatEnd}
use Rattle.cam_base.specs.Paths.{joined}
use Rattle.cspace_layout.specs.declared.end_at.EndAt.{EndAt}
use Rattle.cspace_layout.specs.Lookups.{end_of}
use Rattle.system_spec.specs.MapText.{Named, connection_path, leaf_path, member_name}
use Rattle.system_spec.specs.Names.{name_of, root_series}
use Rattle.system_spec.specs.declared.map_line.MapLine.{MapLine}
use Rattle.system_spec.specs.declared.map_line.MapLine.TheVariants.{ThreadLine, SlotLine, OwnLine, WindowLine}
use Rattle.system_spec.specs.declared.series.Series.TheVariants as series
use Rattle.domain_table.specs.Pages.{rows_of_space}
use Rattle.domain_table.specs.Rows.{Row, row_line}
use Rattle.domain_table.specs.declared.table.DomainTables.{DomainTables}

-- ---- what is inside the domain

abbrev pub is_number : ℕ → Option ℕ → Bool
is_number d None = false
is_number d (Some n) = n == d

-- whether the domain with this number has the leaf
abbrev pub has_leaf : Flat → ℕ → ℕ → Bool
has_leaf flat d leaf = is_number d (option_and_then (λ x. x.domain) (slice_get flat.leaves leaf))

-- whether it has the leaf at which end n of connection k stands
abbrev pub has_end : Flat → ℕ → ℕ → ℕ → Bool
has_end flat d k n = option_map_or (λ x. has_leaf flat d x.1.leaf) (end_of flat k n) false

-- the texts of the labels of all domains, and the number of the domain with this one
abbrev pub domain_labels : Flat → List (List ℕ)
domain_labels flat = map (λ x. joined x.path) flat.domains

abbrev pub domain_called : Flat → List ℕ → Option ℕ
domain_called flat label = position (λ t. bytes_eq t label) (domain_labels flat)

-- ---- words

abbrev pub leaf_text : Flat → ℕ → List ℕ
leaf_text flat leaf = joined (leaf_path flat leaf)

-- `c.e k`, of an end of connection k
abbrev pub joined_text : Named → ℕ → FlatEnd → List ℕ
joined_text n k end = together (
    leaf_text n.flat end.leaf ∷ codes "." ∷ member_name n end.leaf end.member ∷ codes " " ∷ joined (connection_path n.flat k)
    ∷ [])

-- of end e of connection k
abbrev pub end_text : Named → ℕ → ℕ → List ℕ
end_text n k e = option_map_or (λ x. joined_text n k x.1) (end_of n.flat k e) []

-- `c.m`, of a lock
abbrev pub lock_text : Named → ℕ → ℕ → List ℕ
lock_text n leaf member = together (leaf_text n.flat leaf ∷ codes "." ∷ member_name n leaf member ∷ [])

-- `c`, or `s.e k` of a thread that serves at an end
abbrev pub thread_text : Named → ℕ → Option EndAt → List ℕ
thread_text n leaf None = leaf_text n.flat leaf
thread_text n leaf (Some e) = end_text n e.connection e.end

-- ---- slots

-- the slots of a CNode, none of anything else
abbrev pub cnode_slots : Option Object → List (ℕ × Cap)
cnode_slots (Some (CNode bits slots)) = slots
cnode_slots (Some Endpoint) = []
cnode_slots (Some Notification) = []
cnode_slots (Some (Thread tcb)) = []
cnode_slots (Some (Frame paddr fill)) = []
cnode_slots (Some (Pages level slots)) = []
cnode_slots (Some (Irq notification)) = []
cnode_slots None = []

-- a slot of a domain's CNode, which stands at the place of the domain's number
abbrev pub cap_in : Spec → ℕ → ℕ → Option (ℕ × Cap)
cap_in spec d slot = find (λ s. s.0 == slot) (cnode_slots (object_at spec d))

abbrev pub rights_of : Option (ℕ × Cap) → List ℕ
rights_of None = []
rights_of (Some x) = rights_word x.1.rights

abbrev pub badge_of : Option (ℕ × Cap) → ℕ
badge_of None = 0
badge_of (Some x) = x.1.badge

-- its number, its object, the rights and the badge of its capability, and what it is for
abbrev pub slot_row : Spec → ℕ → ℕ → ℕ → List ℕ → Row
slot_row spec d slot object text =
    hex_text slot ∷ name_at spec object ∷ rights_of (cap_in spec d slot) ∷ decimal (badge_of (cap_in spec d slot)) ∷ text ∷ []

-- of a line of the map, where it tells of a slot of the domain
abbrev pub slot_line : Named → ℕ → MapLine → List Row
slot_line n d (SlotLine k e slot object) =
    if has_end n.flat d k e then slot_row n.spec d slot object (end_text n k e) ∷ [] else []
slot_line n d (OwnLine leaf m slot object) =
    if has_leaf n.flat d leaf then slot_row n.spec d slot object (lock_text n leaf m) ∷ [] else []
slot_line n d _ = []

-- ---- threads

-- whose it is, its object, its entry, its stack's end and the address of its IPC buffer
abbrev pub registers_row : List ℕ → List ℕ → Option Object → List Row
registers_row text name (Some (Thread tcb)) = (text ∷ name ∷ hex_text tcb.ip ∷ hex_text tcb.sp ∷ hex_text tcb.addr ∷ []) ∷ []
registers_row text name (Some Endpoint) = []
registers_row text name (Some Notification) = []
registers_row text name (Some (CNode bits slots)) = []
registers_row text name (Some (Frame paddr fill)) = []
registers_row text name (Some (Pages level slots)) = []
registers_row text name (Some (Irq notification)) = []
registers_row text name None = []

abbrev pub thread_row : Named → ℕ → List ℕ → List Row
thread_row n tcb text = registers_row text (name_at n.spec tcb) (object_at n.spec tcb)

abbrev pub thread_line : Named → ℕ → MapLine → List Row
thread_line n d (ThreadLine tcb leaf end) = if has_leaf n.flat d leaf then thread_row n tcb (thread_text n leaf end) else []
thread_line n d _ = []

-- ---- windows

-- whose it is, its address, and how many bytes
abbrev pub window_line : Named → ℕ → MapLine → List Row
window_line n d (WindowLine k e vaddr bytes) =
    if has_end n.flat d k e then (end_text n k e ∷ hex_text vaddr ∷ decimal bytes ∷ []) ∷ [] else []
window_line n d _ = []

-- ---- pages

-- the root of a domain's space has the domain's number
abbrev pub root_name : Spec → ℕ → List ℕ
root_name spec d = name_of (root_series spec.arch) d

-- ---- all

abbrev pub heading : Named → ℕ → List ℕ → List ℕ
heading n d label = together (
    codes "domain " ∷ label ∷ codes ": " ∷ name_of series.CNode d ∷ codes ", " ∷ root_name n.spec d ∷ codes "\n" ∷ [])

-- the name of the table's columns, and the line that Markdown has below them
abbrev pub slot_head : List ℕ
slot_head = codes "\n| slot | object | rights | badge | of |\n|---|---|---|---|---|\n"

abbrev pub thread_head : List ℕ
thread_head = codes "\n| thread | object | entry | stack | buffer |\n|---|---|---|---|---|\n"

abbrev pub window_head : List ℕ
window_head = codes "\n| window | address | bytes |\n|---|---|---|\n"

abbrev pub page_head : List ℕ
page_head = codes "\n| page | frame | rights | holds |\n|---|---|---|---|\n"

-- what is inside the domain with this number, by the lines of the map
abbrev pub tables_in : Named → List MapLine → ℕ → DomainTables
tables_in n lines d = record {
  slots = flat_map (slot_line n d) lines;
  threads = flat_map (thread_line n d) lines;
  windows = flat_map (window_line n d) lines;
  pages = rows_of_space n.spec (root_name n.spec d);
}

unfoldable pub table_text : List ℕ → List Row → List ℕ
table_text head rows = head ++ flat_map row_line rows

-- the tables as text
abbrev pub tables_text : DomainTables → List ℕ
tables_text t =
    ((table_text slot_head t.slots ++ table_text thread_head t.threads) ++ table_text window_head t.windows)
    ++ table_text page_head t.pages

-- those of the domain with this number and this label
abbrev pub tables_of : Named → List MapLine → ℕ → List ℕ → List ℕ
tables_of n lines d label = heading n d label ++ tables_text (tables_in n lines d)
