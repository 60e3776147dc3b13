-- The pages of a space: from the root down, the page tables in the slots of each, and the frames in the slots of the lowest. A
-- slot's address is that of its table, and behind it so many times what a slot of its level spans as the slot's number says.
-- Addresses are numbers of 64 bits; within the levels of an architecture no sum passes them.
use Rattle.std.specs.Prelude.{ℕ, ◌+◌, ◌*◌, ◌%◌, ◌^◌, List, [], ◌∷◌, codes, decimal, Option, Some, None, find}
use Rattle.domain_table.specs.Below.{CNode, Cap, Endpoint, Frame, Irq, Notification, Object, Pages, Spec, Thread, bytes_eq, flat_map, hex_text, name_at, object_at, option_map, rights_word, together}
use Rattle.cap_model.specs.declared.level.Arch.{Arch}
use Rattle.cap_model.specs.declared.level.Arch.TheVariants.{Arm11, Aarch64}
use Rattle.cap_model.specs.declared.object.Fill.{Fill}
use Rattle.domain_table.specs.Rows.{Row}

-- what a slot of each level spans, from the root down
abbrev pub steps : Arch → List ℕ
steps Arm11 = 2 ^ 20 ∷ 2 ^ 12 ∷ []
steps Aarch64 = 2 ^ 39 ∷ 2 ^ 30 ∷ 2 ^ 21 ∷ 2 ^ 12 ∷ []

abbrev pub address : ℕ → ℕ → ℕ → ℕ
address at slot step = (at + (slot * step) % 2 ^ 64) % 2 ^ 64

-- the slots of a page table, none of anything else
abbrev pub table_slots : Option Object → List (ℕ × Cap)
table_slots (Some (Pages level slots)) = slots
table_slots (Some Endpoint) = []
table_slots (Some Notification) = []
table_slots (Some (CNode bits slots)) = []
table_slots (Some (Thread tcb)) = []
table_slots (Some (Frame paddr fill)) = []
table_slots (Some (Irq notification)) = []
table_slots None = []

-- ---- what stands in a frame

-- `at 0x48020000`, the address of a device's page
abbrev pub paddr_text : Option ℕ → List ℕ
paddr_text None = []
paddr_text (Some paddr) = together (codes "at " ∷ hex_text paddr ∷ [])

-- `Client 0x1000 2048`: a file, where in it, and how many bytes
abbrev pub fill_text : Option Fill → List ℕ
fill_text None = []
fill_text (Some f) = together (f.file ∷ codes " " ∷ hex_text f.at ∷ codes " " ∷ decimal f.length ∷ [])

abbrev pub frame_text : Option Object → List ℕ
frame_text (Some (Frame paddr fill)) = together (paddr_text paddr ∷ fill_text fill ∷ [])
frame_text (Some Endpoint) = []
frame_text (Some Notification) = []
frame_text (Some (CNode bits slots)) = []
frame_text (Some (Thread tcb)) = []
frame_text (Some (Pages level slots)) = []
frame_text (Some (Irq notification)) = []
frame_text None = []

-- ---- rows

-- its address, its frame, its rights, and what stands in it
abbrev pub page_row : Spec → ℕ → Cap → Row
page_row spec at cap =
    hex_text at ∷ name_at spec cap.object ∷ rights_word cap.rights ∷ frame_text (object_at spec cap.object) ∷ []

-- of what a capability at an address leads to, over the levels below it
abbrev pub page_rows : Spec → List ℕ → ℕ → Cap → List Row
page_rows spec [] at cap = page_row spec at cap ∷ []
page_rows spec (step ∷ below) at cap =
    flat_map (λ s. page_rows spec below (address at s.0 step) s.1) (table_slots (object_at spec cap.object))

-- of the slots of a root, over all levels
abbrev pub space_rows : Spec → List ℕ → List (ℕ × Cap) → List Row
space_rows spec [] slots = []
space_rows spec (step ∷ below) slots = flat_map (λ s. page_rows spec below (address 0 s.0 step) s.1) slots

-- the object of the first entry of that name
abbrev pub object_called : Spec → List ℕ → Option Object
object_called spec name = option_map (λ e. e.object) (find (λ e. bytes_eq e.name name) spec.entries)

-- of the space whose root has that name
abbrev pub rows_of_space : Spec → List ℕ → List Row
rows_of_space spec root = space_rows spec (steps spec.arch) (table_slots (object_called spec root))
