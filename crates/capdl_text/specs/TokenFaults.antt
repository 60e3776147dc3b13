-- The faults of tokens: which one stands at the front of bytes, and on which of them.
--
-- Byte stands
--   at a byte that begins no token, no blank and no comment: the byte;
--   at a text without its end in its line: up to the line feed or the end;
--   at a comment without its end: up to the end of the bytes;
--   at a run of letters, digits and underscores that begins with a digit and is no number up to 2^64 - 1, not 4k and no
--     size that is left out: the run.
-- Limit stands at a word of more than 127 bytes.
-- LeftOut stands at a word and at a size that this profile leaves out.
use Rattle.std.specs.Prelude.{ℕ, Bool, false, ◌==◌, nat_lt, not, if◌then◌else◌, List, [], ◌∷◌, length, Option, Some, None, codes}
use Rattle.capdl_text.specs.Below.{CapdlByte, CapdlLeftOut, CapdlLimit, TextCode, bytes_eq, is_digit, is_letter, is_some, is_word_byte, list_any}
use Rattle.capdl_text.specs.Gaps.{is_blank, after_slash, after_dash}
use Rattle.capdl_text.specs.TokenKinds.{digits_kind, mark_of}

-- a code, and the bytes that are at fault
abbrev pub Found : Type 0
Found = Option (TextCode × List ℕ)

-- the longest run of bytes that pass the test, at the front
abbrev pub run : (ℕ → Bool) → List ℕ → List ℕ
run test [] = []
run test (b ∷ bs) = if test b then b ∷ run test bs else []

-- what stands behind it
abbrev pub after_run : (ℕ → Bool) → List ℕ → List ℕ
after_run test [] = []
after_run test (b ∷ bs) = if test b then after_run test bs else b ∷ bs

-- words of capDL that this profile leaves out
abbrev pub left_out_words : List (List ℕ)
left_out_words =
    codes "untyped" ∷ codes "ut" ∷ codes "asid_pool" ∷ codes "io_ports" ∷ codes "io_device" ∷ codes "io_pt" ∷ codes "arm_iospace"
    ∷ codes "vcpu" ∷ codes "sc"
    ∷ codes "rtreply" ∷ codes "cdt" ∷ codes "master_reply" ∷ codes "reply_slot" ∷ codes "caller_slot" ∷ codes "fault_ep_slot"
    ∷ codes "ia32" ∷ codes "x86_64" ∷ codes "riscv" ∷ []

-- sizes of frames that this profile leaves out
abbrev pub left_out_sizes : List (List ℕ)
left_out_sizes = codes "64k" ∷ codes "1M" ∷ codes "2M" ∷ codes "16M" ∷ codes "1G" ∷ []

unfoldable pub is_left_out_word : List ℕ → Bool
is_left_out_word word = list_any (bytes_eq word) left_out_words

unfoldable pub is_left_out_size : List ℕ → Bool
is_left_out_size run = list_any (bytes_eq run) left_out_sizes

abbrev pub word_fault : List ℕ → Found
word_fault word = if nat_lt 127 (length word) then Some (CapdlLimit, word) else if is_left_out_word word then Some
    (CapdlLeftOut, word) else None

abbrev pub digits_fault : List ℕ → Found
digits_fault run = if is_some (digits_kind run) then None else if is_left_out_size run then Some (CapdlLeftOut, run) else Some
    (CapdlByte, run)

-- the bytes are no token
abbrev pub unless : Option (List ℕ) → List ℕ → Found
unless None text = Some (CapdlByte, text)
unless (Some rest) text = None

-- the rest behind the quote that ends a text, of which a first quote stands before; none where its line has no such quote
abbrev pub after_text : List ℕ → Option (List ℕ)
after_text [] = None
after_text (b ∷ bs) = if b == 34 then Some bs else if b == 10 then None else after_text bs

abbrev pub is_line_byte : ℕ → Bool
is_line_byte b = not (b == 10)

-- the next byte is a star
abbrev pub is_star : List ℕ → Bool
is_star [] = false
is_star (b ∷ bs) = b == 42

abbrev pub mark_fault : ℕ → Found
mark_fault b = if is_some (mark_of b) then None else Some (CapdlByte, b ∷ [])

-- The fault at the front of these bytes, where one stands there: by the first byte, which can have one kind alone.
unfoldable pub fault_at : List ℕ → Found
fault_at [] = None
fault_at (b ∷ bs) =
    if is_letter b then word_fault (run is_word_byte (b ∷ bs))
    else if is_digit b then digits_fault (run is_word_byte (b ∷ bs))
    else if is_blank b then None
    else if b == 47 then unless (after_slash bs) (if is_star bs then b ∷ bs else b ∷ [])
    else if b == 45 then unless (after_dash bs) (b ∷ [])
    else if b == 34 then unless (after_text bs) (run is_line_byte (b ∷ bs))
    else mark_fault b
