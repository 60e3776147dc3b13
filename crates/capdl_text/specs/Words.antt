-- The words of capDL that have a meaning of their own. Each may be the name of an object too.
use Rattle.std.specs.Prelude.{ℕ, ◌==◌, leb, Bool, not, ◌&&◌, ◌||◌, if◌then◌else◌, List, [], ◌∷◌, length, count_by, codes, Option, Some, None, unwrap_or}
use Rattle.capdl_text.specs.Below.{Directory, Global, Table, Upper, bytes_eq, list_all, list_any, option_map, option_or}
use Rattle.capdl_text.specs.declared.field.Field.{Field}
use Rattle.capdl_text.specs.declared.field.Field.TheVariants as fields
use Rattle.capdl_text.specs.declared.token.Word.{Word}
use Rattle.capdl_text.specs.declared.token.Word.TheVariants as words

-- ---- words of the parts of a text

abbrev pub part_word : List ℕ → Option Word
part_word text =
    if bytes_eq text (codes "arch") then Some words.Arch
    else if bytes_eq text (codes "arm11") then Some words.Arm11
    else if bytes_eq text (codes "aarch64") then Some words.Aarch64
    else if bytes_eq text (codes "objects") then Some words.Objects
    else if bytes_eq text (codes "caps") then Some words.Caps
    else if bytes_eq text (codes "irq") then Some words.Irq
    else if bytes_eq text (codes "maps") then Some words.Maps
    else None

-- ---- words of kinds of objects

abbrev pub kind_word : List ℕ → Option Word
kind_word text =
    if bytes_eq text (codes "ep") then Some words.Endpoint
    else if bytes_eq text (codes "notification") then Some words.Notification
    else if bytes_eq text (codes "cnode") then Some words.CNode
    else if bytes_eq text (codes "bits") then Some words.Bits
    else if bytes_eq text (codes "tcb") then Some words.Thread
    else if bytes_eq text (codes "frame") then Some words.Frame
    else if bytes_eq text (codes "CDL_FrameFill_FileData") then Some words.FileData
    else None

abbrev pub table_word : List ℕ → Option Word
table_word text =
    if bytes_eq text (codes "pgd") then Some (words.Pages Global)
    else if bytes_eq text (codes "pud") then Some (words.Pages Upper)
    else if bytes_eq text (codes "pd") then Some (words.Pages Directory)
    else if bytes_eq text (codes "pt") then Some (words.Pages Table)
    else None

-- ---- words of fields of objects

abbrev pub field_text : Field → List ℕ
field_text fields.Addr = codes "addr"
field_text fields.Ip = codes "ip"
field_text fields.Sp = codes "sp"
field_text fields.Prio = codes "prio"
field_text fields.Elf = codes "elf"
field_text fields.Paddr = codes "paddr"
field_text fields.Fill = codes "fill"

-- the first of the fields that has this word
abbrev pub field_among : List Field → List ℕ → Option Field
field_among [] text = None
field_among (f ∷ fs) text = if bytes_eq (field_text f) text then Some f else field_among fs text

abbrev pub all_fields : List Field
all_fields = fields.Addr ∷ fields.Ip ∷ fields.Sp ∷ fields.Prio ∷ fields.Elf ∷ fields.Paddr ∷ fields.Fill ∷ []

-- the field of a word
unfoldable pub field_of : List ℕ → Option Field
field_of text = field_among all_fields text

-- ---- words of slots and capabilities

abbrev pub slot_word : List ℕ → Option Word
slot_word text =
    if bytes_eq text (codes "cspace") then Some words.Cspace
    else if bytes_eq text (codes "vspace") then Some words.Vspace
    else if bytes_eq text (codes "ipc_buffer_slot") then Some words.Buffer
    else if bytes_eq text (codes "badge") then Some words.Badge
    else None

abbrev pub has_letter : ℕ → List ℕ → Bool
has_letter letter text = list_any (λ b. b == letter) text

abbrev pub once : ℕ → List ℕ → Bool
once letter text = leb (count_by (λ b. b == letter) text) 1

abbrev pub each_once : List ℕ → Bool
each_once text = once 82 text && (once 87 text && (once 71 text && once 80 text))

abbrev pub is_right : ℕ → Bool
is_right b = b == 82 || (b == 87 || (b == 71 || b == 80))

-- a word of the letters R, W, G and P, each at most once, in any order
abbrev pub is_rights : List ℕ → Bool
is_rights text = not (length text == 0) && (list_all is_right text && each_once text)

-- a word of the letters R, W, G, P and X, with X, each at most once, in any order
abbrev pub is_left_out_rights : List ℕ → Bool
is_left_out_rights text = has_letter 88 text && (list_all (λ b. is_right b || b == 88) text && (each_once text && once 88 text))

abbrev pub rights_word : List ℕ → Option Word
rights_word text = if is_rights text then Some words.Rights else if is_left_out_rights text then Some
    words.LeftOutRights else None

-- ---- all of them

-- what a word stands for
unfoldable pub word_of : List ℕ → Word
word_of text =
    unwrap_or
    (option_or (part_word text)
    (option_or (kind_word text) (option_or (table_word text) (option_or (option_map words.Field (field_of text))
    (option_or (slot_word text) (rights_word text)))))) words.Plain
