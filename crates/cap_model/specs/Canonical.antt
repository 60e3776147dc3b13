-- The one text that a spec is written as. Slots, addresses and the place in a file are hexadecimal, all other numbers
-- decimal. Objects stand in their order; holders are the objects with a slot, in the same order.
use Rattle.std.specs.Prelude.{ℕ, Bool, true, false, not, ◌==◌, ◌||◌, List, [], ◌∷◌, Option, Some, None, codes, decimal}
use Rattle.std.specs.List.{flat_map}
use Rattle.std.specs.Option.{is_some}
use Rattle.cam_base.specs.Hex.{hex_text}
use Rattle.cam_base.specs.Texts.{◌⊹◌, together}
use Rattle.cap_model.specs.declared.cap.Cap.{Cap}
use Rattle.cap_model.specs.declared.level.Arch.{Arch}
use Rattle.cap_model.specs.declared.level.Arch.TheVariants.{Arm11, Aarch64}
use Rattle.cap_model.specs.declared.level.Level.{Level}
use Rattle.cap_model.specs.declared.level.Level.TheVariants.{Global, Upper, Directory, Table}
use Rattle.cap_model.specs.declared.object.Fill.{Fill}
use Rattle.cap_model.specs.declared.object.Object.{Object}
use Rattle.cap_model.specs.declared.object.Object.TheVariants.{Endpoint, Notification, CNode, Thread, Frame, Pages, Irq}
use Rattle.cap_model.specs.declared.object.Tcb.{Tcb}
use Rattle.cap_model.specs.declared.rights.Rights.{Rights}
use Rattle.cap_model.specs.declared.spec.Entry.{Entry}
use Rattle.cap_model.specs.declared.spec.Spec.{Spec}
use Rattle.cap_model.specs.Lookup.{name_at}
use Rattle.cap_model.specs.RightsWord.{has_rights, rights_word}

abbrev pub arch_word : Arch → List ℕ
arch_word Arm11 = codes "arm11"
arch_word Aarch64 = codes "aarch64"

abbrev pub level_word : Level → List ℕ
level_word Global = codes "pgd"
level_word Upper = codes "pud"
level_word Directory = codes "pd"
level_word Table = codes "pt"

-- `, elf: "Client"`
abbrev pub elf_field : Option (List ℕ) → List ℕ
elf_field None = []
elf_field (Some elf) = together (codes ", elf: \"" ∷ elf ∷ codes "\"" ∷ [])

-- `tcb_0 = tcb (addr: 0x40003000, ip: 0x10000, sp: 0x40002000, elf: "Client", prio: 254)`
abbrev pub tcb_line : List ℕ → Tcb → List ℕ
tcb_line name tcb =
    together (name ∷ codes " = tcb (addr: " ∷ hex_text tcb.addr ∷ codes ", ip: " ∷ hex_text tcb.ip ∷ codes ", sp: "
    ∷ hex_text tcb.sp ∷ [])
    ⊹ elf_field tcb.elf ⊹ together (codes ", prio: " ∷ decimal tcb.prio ∷ codes ")\n" ∷ [])

-- `, paddr: 0x1000`
abbrev pub paddr_field : Option ℕ → List ℕ
paddr_field None = []
paddr_field (Some paddr) = together (codes ", paddr: " ∷ hex_text paddr ∷ [])

-- `, fill: [{0 2048 CDL_FrameFill_FileData "Client" 0x1000}]`
abbrev pub fill_field : Option Fill → List ℕ
fill_field None = []
fill_field (Some fill) =
    together (codes ", fill: [{" ∷ decimal fill.offset ∷ codes " " ∷ decimal fill.length ∷ codes " CDL_FrameFill_FileData \""
    ∷ fill.file ∷ codes "\" " ∷ hex_text fill.at ∷ codes "}]" ∷ [])

-- `frame_0 = frame (4k, fill: [{0 2048 CDL_FrameFill_FileData "Client" 0x1000}])`
abbrev pub frame_line : List ℕ → Option ℕ → Option Fill → List ℕ
frame_line name paddr fill = together (name ∷ codes " = frame (4k" ∷ []) ⊹ paddr_field paddr ⊹ fill_field fill ⊹ codes ")\n"

-- `cnode_0 = cnode (1 bits)`, and so on
abbrev pub object_line : List ℕ → Object → List ℕ
object_line name Endpoint = together (name ∷ codes " = ep\n" ∷ [])
object_line name Notification = together (name ∷ codes " = notification\n" ∷ [])
object_line name (CNode bits slots) = together (name ∷ codes " = cnode (" ∷ decimal bits ∷ codes " bits)\n" ∷ [])
object_line name (Thread tcb) = tcb_line name tcb
object_line name (Frame paddr fill) = frame_line name paddr fill
object_line name (Pages level slots) = together (name ∷ codes " = " ∷ level_word level ∷ codes "\n" ∷ [])
object_line name (Irq notification) = together (name ∷ codes " = irq\n" ∷ [])

abbrev pub entry_line : Entry → List ℕ
entry_line entry = object_line entry.name entry.object

-- ` (WP, badge: 1)`: whether there are rights, and whether there is a badge
abbrev pub params : Bool → Bool → Rights → ℕ → List ℕ
params false false rights badge = []
params true false rights badge = together (codes " (" ∷ rights_word rights ∷ codes ")" ∷ [])
params false true rights badge = together (codes " (badge: " ∷ decimal badge ∷ codes ")" ∷ [])
params true true rights badge = together (codes " (" ∷ rights_word rights ∷ codes ", badge: " ∷ decimal badge ∷ codes ")" ∷ [])

-- `ep_0 (WP, badge: 1)`, and the end of the line
abbrev pub cap_end : Spec → Cap → List ℕ
cap_end spec cap = name_at spec cap.object ⊹ params (has_rights cap.rights) (not (cap.badge == 0)) cap.rights
    cap.badge ⊹ codes "\n"

-- `0x1: ep_0 (WP, badge: 1)`
abbrev pub slot_line : Spec → ℕ × Cap → List ℕ
slot_line spec slot = together (hex_text slot.0 ∷ codes ": " ∷ []) ⊹ cap_end spec slot.1

-- `cnode_0 {`, the slots, `}`
abbrev pub slots_text : Spec → List ℕ → List (ℕ × Cap) → List ℕ
slots_text spec name [] = []
slots_text spec name (slot ∷ slots) = together (name ∷ codes " {\n" ∷ []) ⊹ flat_map (slot_line spec) (slot ∷ slots) ⊹ codes "}\n"

-- `cspace: cnode_0`
abbrev pub named_line : Spec → List ℕ → Option ℕ → List ℕ
named_line spec word None = []
named_line spec word (Some object) = together (word ∷ name_at spec object ∷ codes "\n" ∷ [])

-- `ipc_buffer_slot: frame_2 (RW)`
abbrev pub buffer_line : Spec → Option Cap → List ℕ
buffer_line spec None = []
buffer_line spec (Some cap) = codes "ipc_buffer_slot: " ⊹ cap_end spec cap

abbrev pub has_slot : Tcb → Bool
has_slot tcb = is_some tcb.cspace || (is_some tcb.vspace || is_some tcb.buffer)

-- `tcb_0 {`, the slots that it has, `}`
abbrev pub tcb_text : Spec → List ℕ → Tcb → Bool → List ℕ
tcb_text spec name tcb false = []
tcb_text spec name tcb true =
    together (name ∷ codes " {\n" ∷ []) ⊹ named_line spec (codes "cspace: ") tcb.cspace ⊹ named_line spec (codes "vspace: ")
    tcb.vspace ⊹ buffer_line spec tcb.buffer ⊹ codes "}\n"

-- `irq_0 {`, its notification, `}`
abbrev pub irq_text : Spec → List ℕ → Option ℕ → List ℕ
irq_text spec name None = []
irq_text spec name (Some notification) = together (name ∷ codes " {\n0x0: " ∷ name_at spec notification ∷ codes "\n}\n" ∷ [])

abbrev pub holder_text : Spec → List ℕ → Object → List ℕ
holder_text spec name (CNode bits slots) = slots_text spec name slots
holder_text spec name (Thread tcb) = tcb_text spec name tcb (has_slot tcb)
holder_text spec name (Pages level slots) = slots_text spec name slots
holder_text spec name (Irq notification) = irq_text spec name notification
holder_text spec name Endpoint = []
holder_text spec name Notification = []
holder_text spec name (Frame paddr fill) = []

abbrev pub entry_text : Spec → Entry → List ℕ
entry_text spec entry = holder_text spec entry.name entry.object

-- `37: irq_0`
abbrev pub irq_line : Spec → ℕ × ℕ → List ℕ
irq_line spec line = together (decimal line.0 ∷ codes ": " ∷ name_at spec line.1 ∷ codes "\n" ∷ [])

unfoldable pub canonical : Spec → List ℕ
canonical spec =
    together (codes "arch " ∷ arch_word spec.arch ∷ codes "\n\nobjects {\n" ∷ [])
    ⊹ flat_map entry_line spec.entries
    ⊹ codes "}\n\ncaps {\n"
    ⊹ flat_map (entry_text spec) spec.entries
    ⊹ codes "}\n\nirq maps {\n"
    ⊹ flat_map (irq_line spec) spec.irqs
    ⊹ codes "}\n"
