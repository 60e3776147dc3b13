-- The pieces of a canonical text: each line with what stands behind it.
use Rattle.std.specs.Prelude.{ℕ, Bool, true, false, not, ◌==◌, List, [], ◌∷◌, ◌++◌, Option, Some, None, codes, decimal}
use Rattle.cam_base.specs.Hex.{hex_text}
use Rattle.cap_model.specs.Canonical.{arch_word, level_word, has_slot}
use Rattle.cap_model.specs.Lookup.{name_at}
use Rattle.cap_model.specs.RightsWord.{has_rights, rights_word}
use Rattle.cap_model.specs.declared.cap.Cap.{Cap}
use Rattle.cap_model.specs.declared.object.Fill.{Fill}
use Rattle.cap_model.specs.declared.object.Object.{Object}
use Rattle.cap_model.specs.declared.object.Object.TheVariants.{Endpoint, Notification, CNode, Thread, Frame, Pages, Irq}
use Rattle.cap_model.specs.declared.object.Tcb.{Tcb}
use Rattle.cap_model.specs.declared.rights.Rights.{Rights}
use Rattle.cap_model.specs.declared.spec.Entry.{Entry}
use Rattle.cap_model.specs.declared.spec.Spec.{Spec}
use Rattle.capdl_text.specs.declared.token.Kind.TheVariants as kinds
use Rattle.capdl_text.specs.declared.token.Mark.TheVariants as marks
use Rattle.capdl_text.specs.Words.{word_of}
use Rattle.capdl_write.specs.Pieces.{Piece}

abbrev pub word : List ℕ → List ℕ → Piece
word text blanks = record { kind = kinds.Word (word_of text); text = text; blanks = blanks }

abbrev pub dec : ℕ → List ℕ → Piece
dec n blanks = record { kind = kinds.Number n; text = decimal n; blanks = blanks }

abbrev pub hex : ℕ → List ℕ → Piece
hex n blanks = record { kind = kinds.Number n; text = hex_text n; blanks = blanks }

-- bytes between quotes
abbrev pub quoted : List ℕ → List ℕ → Piece
quoted text blanks = record { kind = kinds.Text; text = 34 ∷ text ++ 34 ∷ []; blanks = blanks }

abbrev pub size_4k : Piece
size_4k = record { kind = kinds.Page; text = codes "4k"; blanks = [] }

abbrev pub brace_l : List ℕ → Piece
brace_l blanks = record { kind = kinds.Mark marks.BraceL; text = codes "{"; blanks = blanks }

abbrev pub brace_r : List ℕ → Piece
brace_r blanks = record { kind = kinds.Mark marks.BraceR; text = codes "}"; blanks = blanks }

abbrev pub paren_l : Piece
paren_l = record { kind = kinds.Mark marks.ParenL; text = codes "("; blanks = [] }

abbrev pub paren_r : List ℕ → Piece
paren_r blanks = record { kind = kinds.Mark marks.ParenR; text = codes ")"; blanks = blanks }

abbrev pub square_l : Piece
square_l = record { kind = kinds.Mark marks.SquareL; text = codes "["; blanks = [] }

abbrev pub square_r : Piece
square_r = record { kind = kinds.Mark marks.SquareR; text = codes "]"; blanks = [] }

abbrev pub equals : Piece
equals = record { kind = kinds.Mark marks.Equals; text = codes "="; blanks = codes " " }

abbrev pub colon : Piece
colon = record { kind = kinds.Mark marks.Colon; text = codes ":"; blanks = codes " " }

abbrev pub comma : Piece
comma = record { kind = kinds.Mark marks.Comma; text = codes ","; blanks = codes " " }

-- ---- objects

-- `, elf: "Client"`, behind a number
abbrev pub elf_pieces : Option (List ℕ) → List Piece → List Piece
elf_pieces None more = more
elf_pieces (Some elf) more = comma ∷ word (codes "elf") [] ∷ colon ∷ quoted elf [] ∷ more

abbrev pub tcb_pieces : List ℕ → Tcb → List Piece → List Piece
tcb_pieces name tcb more =
    word name (codes " ") ∷ equals ∷ word (codes "tcb") (codes " ") ∷ paren_l ∷ word (codes "addr") [] ∷ colon ∷ hex tcb.addr []
    ∷ comma ∷ word (codes "ip") [] ∷ colon ∷ hex tcb.ip []
    ∷ comma ∷ word (codes "sp") [] ∷ colon ∷ hex tcb.sp [] ∷ elf_pieces tcb.elf (comma ∷ word (codes "prio") [] ∷ colon
    ∷ dec tcb.prio [] ∷ paren_r (codes "\n") ∷ more)

abbrev pub paddr_pieces : Option ℕ → List Piece → List Piece
paddr_pieces None more = more
paddr_pieces (Some paddr) more = comma ∷ word (codes "paddr") [] ∷ colon ∷ hex paddr [] ∷ more

abbrev pub fill_pieces : Option Fill → List Piece → List Piece
fill_pieces None more = more
fill_pieces (Some fill) more =
    comma ∷ word (codes "fill") [] ∷ colon ∷ square_l ∷ brace_l [] ∷ dec fill.offset (codes " ") ∷ dec fill.length (codes " ")
    ∷ word (codes "CDL_FrameFill_FileData") (codes " ")
    ∷ quoted fill.file (codes " ") ∷ hex fill.at [] ∷ brace_r [] ∷ square_r ∷ more

abbrev pub object_pieces : List ℕ → Object → List Piece → List Piece
object_pieces name Endpoint more = word name (codes " ") ∷ equals ∷ word (codes "ep") (codes "\n") ∷ more
object_pieces name Notification more = word name (codes " ") ∷ equals ∷ word (codes "notification") (codes "\n") ∷ more
object_pieces name (CNode bits slots) more = word name (codes " ") ∷ equals ∷ word (codes "cnode") (codes " ") ∷ paren_l
    ∷ dec bits (codes " ") ∷ word (codes "bits") [] ∷ paren_r (codes "\n") ∷ more
object_pieces name (Thread tcb) more = tcb_pieces name tcb more
object_pieces name (Frame paddr fill) more =
    word name (codes " ") ∷ equals ∷ word (codes "frame") (codes " ") ∷ paren_l ∷ size_4k
    ∷ paddr_pieces paddr (fill_pieces fill (paren_r (codes "\n") ∷ more))
object_pieces name (Pages level slots) more = word name (codes " ") ∷ equals ∷ word (level_word level) (codes "\n") ∷ more
object_pieces name (Irq notification) more = word name (codes " ") ∷ equals ∷ word (codes "irq") (codes "\n") ∷ more

abbrev pub objects_pieces : List Entry → List Piece → List Piece
objects_pieces [] more = more
objects_pieces (e ∷ es) more = object_pieces e.name e.object (objects_pieces es more)

-- ---- holders

-- `ep_0 (WP, badge: 1)` and the end of the line: whether there are rights, and whether there is a badge
abbrev pub target_pieces : List ℕ → Bool → Bool → Rights → ℕ → List Piece → List Piece
target_pieces name false false rights badge more = word name (codes "\n") ∷ more
target_pieces name true false rights badge more = word name (codes " ") ∷ paren_l ∷ word (rights_word rights) []
    ∷ paren_r (codes "\n") ∷ more
target_pieces name false true rights badge more = word name (codes " ") ∷ paren_l ∷ word (codes "badge") [] ∷ colon ∷ dec badge []
    ∷ paren_r (codes "\n") ∷ more
target_pieces name true true rights badge more =
    word name (codes " ") ∷ paren_l ∷ word (rights_word rights) [] ∷ comma ∷ word (codes "badge") [] ∷ colon ∷ dec badge []
    ∷ paren_r (codes "\n") ∷ more

abbrev pub cap_pieces : Spec → Cap → List Piece → List Piece
cap_pieces spec cap more = target_pieces (name_at spec cap.object) (has_rights cap.rights) (not (cap.badge == 0)) cap.rights
    cap.badge more

abbrev pub slots_pieces : Spec → List (ℕ × Cap) → List Piece → List Piece
slots_pieces spec [] more = more
slots_pieces spec (s ∷ ss) more = hex s.0 [] ∷ colon ∷ cap_pieces spec s.1 (slots_pieces spec ss more)

abbrev pub holder_pieces : List ℕ → (List Piece → List Piece) → List Piece → List Piece
holder_pieces name slots more = word name (codes " ") ∷ brace_l (codes "\n") ∷ slots (brace_r (codes "\n") ∷ more)

abbrev pub named_pieces : Spec → List ℕ → Option ℕ → List Piece → List Piece
named_pieces spec key None more = more
named_pieces spec key (Some object) more = word key [] ∷ colon ∷ word (name_at spec object) (codes "\n") ∷ more

abbrev pub buffer_pieces : Spec → Option Cap → List Piece → List Piece
buffer_pieces spec None more = more
buffer_pieces spec (Some cap) more = word (codes "ipc_buffer_slot") [] ∷ colon ∷ cap_pieces spec cap more

abbrev pub tcb_slots : Spec → Tcb → List Piece → List Piece
tcb_slots spec tcb more = named_pieces spec (codes "cspace") tcb.cspace (named_pieces spec (codes "vspace") tcb.vspace
    (buffer_pieces spec tcb.buffer more))

abbrev pub held_slots : Spec → List ℕ → List (ℕ × Cap) → List Piece → List Piece
held_slots spec name [] more = more
held_slots spec name (s ∷ ss) more = holder_pieces name (slots_pieces spec (s ∷ ss)) more

abbrev pub held_tcb : Spec → List ℕ → Tcb → Bool → List Piece → List Piece
held_tcb spec name tcb false more = more
held_tcb spec name tcb true more = holder_pieces name (tcb_slots spec tcb) more

abbrev pub held_irq : Spec → List ℕ → Option ℕ → List Piece → List Piece
held_irq spec name None more = more
held_irq spec name (Some n) more = holder_pieces name (λ ps. hex 0 [] ∷ colon ∷ word (name_at spec n) (codes "\n") ∷ ps) more

abbrev pub held_pieces : Spec → List ℕ → Object → List Piece → List Piece
held_pieces spec name Endpoint more = more
held_pieces spec name Notification more = more
held_pieces spec name (CNode bits slots) more = held_slots spec name slots more
held_pieces spec name (Thread tcb) more = held_tcb spec name tcb (has_slot tcb) more
held_pieces spec name (Frame paddr fill) more = more
held_pieces spec name (Pages level slots) more = held_slots spec name slots more
held_pieces spec name (Irq notification) more = held_irq spec name notification more

abbrev pub holders_pieces : Spec → List Entry → List Piece → List Piece
holders_pieces spec [] more = more
holders_pieces spec (e ∷ es) more = held_pieces spec e.name e.object (holders_pieces spec es more)

-- ---- interrupt lines

abbrev pub irqs_pieces : Spec → List (ℕ × ℕ) → List Piece → List Piece
irqs_pieces spec [] more = more
irqs_pieces spec (l ∷ ls) more = dec l.0 [] ∷ colon ∷ word (name_at spec l.1) (codes "\n") ∷ irqs_pieces spec ls more

-- ---- the whole

abbrev pub last_pieces : Spec → List Piece
last_pieces spec =
    brace_r (codes "\n\n") ∷ word (codes "irq") (codes " ") ∷ word (codes "maps") (codes " ") ∷ brace_l (codes "\n")
    ∷ irqs_pieces spec spec.irqs (brace_r (codes "\n") ∷ [])

abbrev pub caps_pieces : Spec → List Piece
caps_pieces spec = brace_r (codes "\n\n") ∷ word (codes "caps") (codes " ") ∷ brace_l (codes "\n")
    ∷ holders_pieces spec spec.entries (last_pieces spec)

abbrev pub pieces : Spec → List Piece
pieces spec =
    word (codes "arch") (codes " ") ∷ word (arch_word spec.arch) (codes "\n\n") ∷ word (codes "objects") (codes " ")
    ∷ brace_l (codes "\n") ∷ objects_pieces spec.entries (caps_pieces spec)
