-- The objects of a system, in order. Each part has its series and its number, by which it is named, its owner, whose label it
-- has, and what it is of. The parts stand in sections, one behind another:
--
--   0  cnode_N   of each domain
--   1  tcb_N     of each thread, by domain
--   2  ep_K      of each RPC; K is the number of the connection among all
--   3  ntfn_K    of each connection of notifications and each interrupt
--   4  lock_N    of each lock, by domain and slot
--   5  irq_N     of each interrupt: the device's
--   6  pgd_N, pud_N, pd_N, pt_N   of each domain its page tables, the root first; each kind is numbered for itself
--   7  frame_N   of each frame
--
-- A part says what it is of and not what it holds. So where it stands is a sum over what stands before it, and what it holds
-- (`Objects.antt`) may name every other part by its place.
use Rattle.std.specs.Prelude.{ℕ, ◌+◌, ◌==◌, Bool, false, List, [], ◌∷◌, map, length, take}
use Rattle.system_spec.specs.Below.{Connector, Directory, Domain, FlatConnection, FrameInfo, Global, Handler, Interrupt, Level, Notification, Object, OfConnection, OfDomain, OfEnd, OwnLock, Owner, Page, Rights, Rpc, SlotUse, Table, ThreadPlace}
use Rattle.system_spec.specs.Below.{Upper, before, count_by, flat_map, gather, level_of, shapes, tables_of}
use Rattle.page_tables.specs.declared.mapping.Mapping.{Mapping}
use Rattle.system_spec.specs.declared.part.Owned.{Owned}
use Rattle.system_spec.specs.declared.part.PageTable.{PageTable}
use Rattle.system_spec.specs.declared.part.Part.{Part}
use Rattle.system_spec.specs.declared.part.What.{What}
use Rattle.system_spec.specs.declared.part.What.TheVariants.{CNodeOf, ThreadOf, EndpointOf, NotificationOf, LockOf, IrqOf, TableOf, FrameOf}
use Rattle.system_spec.specs.declared.series.Series.{Series}
use Rattle.system_spec.specs.declared.series.Series.TheVariants as series
use Rattle.system_spec.specs.Names.{level_series}
use Rattle.system_spec.specs.Tables.{Tables, arch, frame_owner, irq_owner, pages_at, threads_at, uses_at}
use Rattle.system_spec.specs.declared.levels.LevelCounts.{LevelCounts}

abbrev pub part : Series → ℕ → Owner → What → Part
part s n o w = record { series = s; number = n; owner = o; what = w }

abbrev pub owned : Owner → What → Owned
owned o w = record { owner = o; what = w }

-- numbered from 0
abbrev pub numbered : Series → List Owned → List Part
numbered s xs = gather (λ n x. part s n x.owner x.what ∷ []) xs

-- ---- of domains

abbrev pub cnodes : List Domain → List Owned
cnodes domains = gather (λ d x. owned (OfDomain d) (CNodeOf d) ∷ []) domains

abbrev pub threads_of : ℕ → List ThreadPlace → List Owned
threads_of d threads = gather (λ i thread. owned (OfDomain d) (ThreadOf d i) ∷ []) threads

abbrev pub domain_tcbs : Tables → ℕ → Domain → List Owned
domain_tcbs t d x = threads_of d (threads_at t d)

abbrev pub tcbs : Tables → List Owned
tcbs t = gather (domain_tcbs t) t.flat.domains

abbrev pub lock : ℕ → ℕ → SlotUse → List Owned
lock d n (OfEnd k m) = []
lock d n (Handler k m) = []
lock d n (OwnLock leaf m) = owned (OfDomain d) (LockOf d n) ∷ []

abbrev pub domain_locks : Tables → ℕ → Domain → List Owned
domain_locks t d x = gather (lock d) (uses_at t d)

abbrev pub locks : Tables → List Owned
locks t = gather (domain_locks t) t.flat.domains

-- ---- of connections

abbrev pub endpoint_by : ℕ → Connector → List Part
endpoint_by k Rpc = part series.Ep k (OfConnection k) (EndpointOf k) ∷ []
endpoint_by k _ = []

abbrev pub notification_by : ℕ → Connector → List Part
notification_by k Notification = part series.Ntfn k (OfConnection k) (NotificationOf k) ∷ []
notification_by k Interrupt = part series.Ntfn k (OfConnection k) (NotificationOf k) ∷ []
notification_by k _ = []

abbrev pub irq_by : ℕ → Owner → Connector → List Owned
irq_by k device Interrupt = owned device (IrqOf k) ∷ []
irq_by k device _ = []

abbrev pub endpoint : ℕ → FlatConnection → List Part
endpoint k c = endpoint_by k c.connector

abbrev pub notification : ℕ → FlatConnection → List Part
notification k c = notification_by k c.connector

abbrev pub irq : ℕ → FlatConnection → List Owned
irq k c = irq_by k (irq_owner k c) c.connector

abbrev pub endpoints : Tables → List Part
endpoints t = gather endpoint t.flat.connections

abbrev pub notifications : Tables → List Part
notifications t = gather notification t.flat.connections

abbrev pub irqs : Tables → List Owned
irqs t = gather irq t.flat.connections

-- ---- page tables

abbrev pub page_rights : Page → Rights
page_rights p = record { read = p.read; write = p.write; grant = false; reply = false }

-- a mapping to a frame, where frame 0 stands there
abbrev pub page_mapping : ℕ → Page → Mapping
page_mapping frames p = record { at = p.vaddr; cap = record { object = frames + p.frame; rights = page_rights p; badge = 0 } }

-- the page tables of a domain, where the first of them and frame 0 stand there
abbrev pub tables_at : Tables → ℕ → ℕ → ℕ → List Object
tables_at t first frames d = tables_of first (shapes (arch t)) (map (page_mapping frames) (pages_at t d))

abbrev pub page_table : ℕ → ℕ → Level → PageTable
page_table d j level = record { domain = d; place = j; level = level }

abbrev pub page_tables : ℕ → List Object → List PageTable
page_tables d objects = gather (λ j o. page_table d j (level_of o) ∷ []) objects

-- levels don't depend on where tables and frames stand
abbrev pub domain_tables : Tables → ℕ → Domain → List PageTable
domain_tables t d x = page_tables d (tables_at t 0 0 d)

abbrev pub all_tables : Tables → List PageTable
all_tables t = gather (domain_tables t) t.flat.domains

abbrev pub level_number : Level → ℕ
level_number Global = 0
level_number Upper = 1
level_number Directory = 2
level_number Table = 3

abbrev pub is_of : Level → PageTable → Bool
is_of l x = level_number x.level == level_number l

-- how many of this level stand before place m
abbrev pub of_level : Level → List PageTable → ℕ → ℕ
of_level l xs m = count_by (is_of l) (take m xs)

abbrev pub table_part : List PageTable → ℕ → PageTable → Part
table_part all m x = part (level_series x.level) (of_level x.level all m) (OfDomain x.domain) (TableOf x.domain x.place)

abbrev pub table_parts : List PageTable → List Part
table_parts all = gather (λ m x. table_part all m x ∷ []) all

-- ---- frames

abbrev pub frame_parts : List FrameInfo → List Owned
frame_parts frames = gather (λ f x. owned (frame_owner x.owner) (FrameOf f) ∷ []) frames

-- frame f, numbered
abbrev pub frame_part : ℕ → FrameInfo → Part
frame_part f x = part series.Frame f (frame_owner x.owner) (FrameOf f)

-- ---- all

abbrev pub sections : Tables → List (List Part)
sections t =
    numbered series.CNode (cnodes t.flat.domains)
    ∷ numbered series.Tcb (tcbs t)
    ∷ endpoints t
    ∷ notifications t
    ∷ numbered series.Lock (locks t)
    ∷ numbered series.Irq (irqs t)
    ∷ table_parts (all_tables t)
    ∷ numbered series.Frame (frame_parts t.spaces.frames)
    ∷ []

abbrev pub holders : Tables → List (List Part)
holders t = numbered series.CNode (cnodes t.flat.domains) ∷ numbered series.Tcb (tcbs t) ∷ []

abbrev pub joints : Tables → List (List Part)
joints t = endpoints t ∷ notifications t ∷ numbered series.Lock (locks t) ∷ numbered series.Irq (irqs t) ∷ []

-- all but the last, that of frames
abbrev pub but_frames : Tables → List (List Part)
but_frames t = take 7 (sections t)

abbrev pub together : List (List Part) → List Part
together xs = flat_map (λ x. x) xs

abbrev pub parts : Tables → List Part
parts t = together (sections t)

-- ---- places

-- where a section begins
abbrev pub first_of : Tables → ℕ → ℕ
first_of t n = length (together (take n (sections t)))

-- where a part stands
abbrev pub place : Tables → What → ℕ
place t (CNodeOf d) = first_of t 0 + d
place t (ThreadOf d i) = first_of t 1 + before (domain_tcbs t) t.flat.domains d + i
place t (EndpointOf k) = first_of t 2 + before endpoint t.flat.connections k
place t (NotificationOf k) = first_of t 3 + before notification t.flat.connections k
place t (LockOf d n) = first_of t 4 + before (domain_locks t) t.flat.domains d + before (lock d) (uses_at t d) n
place t (IrqOf k) = first_of t 5 + before irq t.flat.connections k
place t (TableOf d j) = first_of t 6 + before (domain_tables t) t.flat.domains d + j
place t (FrameOf f) = first_of t 7 + f

abbrev pub counts : ℕ → ℕ → ℕ → ℕ → LevelCounts
counts g u d t = record { global = g; upper = u; directory = d; table = t }

abbrev pub counted : LevelCounts → Level → ℕ
counted c Global = c.global
counted c Upper = c.upper
counted c Directory = c.directory
counted c Table = c.table

abbrev pub one_more : LevelCounts → Level → LevelCounts
one_more c Global = counts (c.global + 1) c.upper c.directory c.table
one_more c Upper = counts c.global (c.upper + 1) c.directory c.table
one_more c Directory = counts c.global c.upper (c.directory + 1) c.table
one_more c Table = counts c.global c.upper c.directory (c.table + 1)

-- of those in the list
abbrev pub counts_in : List PageTable → LevelCounts
counts_in xs = counts (count_by (is_of Global) xs) (count_by (is_of Upper) xs) (count_by (is_of Directory) xs)
    (count_by (is_of Table) xs)
