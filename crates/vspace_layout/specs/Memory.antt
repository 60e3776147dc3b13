-- The memory of connections: shared memory, and the registers of devices. A connection of shared memory has its own; one to a
-- device has the device's, and connections to one dataport of a device have the same. Its size is settled at the first end
-- of shared memory, and at the device's end, which is the `to` end.
use Rattle.std.specs.Prelude.{ℕ, ◌/◌, ◌==◌, Bool, true, false, ◌&&◌, List, Option, Some, None, slice_get}
use Rattle.vspace_layout.specs.Below.{Connector, EndSetting, Flat, FlatConnection, FlatEnd, From, Mmio, Role, Settled, SharedMemory, To, option_and_then, option_map_or, position, setting_of}

abbrev pub is_to : Role → Bool
is_to From = false
is_to To = true

-- the place of the first `to` end
abbrev pub to_place : List FlatEnd → Option ℕ
to_place ends = position (λ e. is_to e.role) ends

-- the place of the end at which the connection's memory is settled
abbrev pub memory_place : Connector → List FlatEnd → Option ℕ
memory_place SharedMemory ends = Some 0
memory_place Mmio ends = to_place ends
memory_place _ ends = None

abbrev pub memory_setting : Settled → ℕ → FlatConnection → Option EndSetting
memory_setting settled k c = option_and_then (setting_of settled k) (memory_place c.connector c.ends)

-- the pages of the memory of connection k
abbrev pub memory_pages : Settled → ℕ → FlatConnection → ℕ
memory_pages settled k c = option_map_or (λ s. s.bytes / 4096) (memory_setting settled k c) 0

-- where they stand in physical memory
abbrev pub memory_paddr : Settled → ℕ → FlatConnection → ℕ
memory_paddr settled k c = option_map_or (λ s. s.paddr) (memory_setting settled k c) 0

abbrev pub is_shared : Connector → Bool
is_shared SharedMemory = true
is_shared _ = false

-- ---- devices

abbrev pub first_to_end : List FlatEnd → Option FlatEnd
first_to_end ends = option_and_then (slice_get ends) (to_place ends)

abbrev pub registers_in : Connector → List FlatEnd → Option FlatEnd
registers_in Mmio ends = first_to_end ends
registers_in _ ends = None

-- the end at the device's registers, of a connection to a device
abbrev pub registers : FlatConnection → Option FlatEnd
registers c = registers_in c.connector c.ends

abbrev pub same_port : FlatEnd → FlatEnd → Bool
same_port e f = f.leaf == e.leaf && f.member == e.member

-- whether the connection leads to the registers of this end
abbrev pub leads_to : FlatEnd → FlatConnection → Bool
leads_to e c = option_map_or (same_port e) (registers c) false

-- the number of the first connection to the registers of this end
abbrev pub first_to : Flat → FlatEnd → Option ℕ
first_to flat e = position (leads_to e) flat.connections
