-- The values that settings may have, and what they mean.
--
--   priority of a software leaf          a number to 255
--   stack size of a software leaf        a number from 1 to 16,777,216, in whole pages
--   access of a dataport of software     the text R, W or RW
--   badge of a caller or an emitter      a number to 268,435,455, or a text of 1 to 9 decimal digits of such a number
--   size of shared memory or a device    a number from 1 to 268,435,456, in whole pages
--   address of a device                  a multiple of 4,096, which with the size is at most 2^48
--   interrupt of a device                a number to 1,023
--
-- Each is a function from a value to what it means; a value that isn't allowed means nothing. Sizes are rounded up to whole
-- pages.
use Rattle.adl_meaning.specs.Prelude.{Value, ValueKind, bytes_eq, digits_value, is_digit, list_all, option_and_then}
use Rattle.std.specs.Prelude.{Bool, List, None, Option, Some, codes, false, if◌then◌else◌, length, nat_le, option_map, true, ℕ, ◌%◌, ◌&&◌, ◌*◌, ◌+◌, ◌/◌, ◌==◌, ◌^◌}
use Rattle.adl_ast.specs.declared.value.ValueKind.{Number, Text}
use Rattle.adl_settings.specs.declared.access.Access.{Access}

-- ---- numbers and texts

abbrev pub number_in : ValueKind → Option ℕ
number_in (Number n) = Some n
number_in _ = None

abbrev pub text_in : ValueKind → Option (List ℕ)
text_in (Text t) = Some t
text_in _ = None

-- the number, where it is one from the least to the greatest
abbrev pub within : ℕ → ℕ → ℕ → Option ℕ
within least greatest n = if nat_le least n && nat_le n greatest then Some n else None

abbrev pub number_within : ℕ → ℕ → Value → Option ℕ
number_within least greatest v = option_and_then (within least greatest) (number_in v.kind)

-- the bytes of a page
abbrev pub page : ℕ
page = 4096

-- so many bytes, rounded up to whole pages
abbrev pub whole_pages : ℕ → ℕ
whole_pages n = (n + 4095) / page * page

-- ---- leaves

abbrev pub priority_in : Value → Option ℕ
priority_in v = number_within 0 255 v

abbrev pub stack_in : Value → Option ℕ
stack_in v = option_map whole_pages (number_within 1 16777216 v)

-- ---- ends

abbrev pub read_and_write : Access
read_and_write = record { read = true; write = true }

abbrev pub no_access : Access
no_access = record { read = false; write = false }

abbrev pub access_named : List ℕ → Option Access
access_named t =
    if bytes_eq t (codes "R") then Some (record { read = true; write = false })
    else (if bytes_eq t (codes "W") then Some (record { read = false; write = true }) else
    (if bytes_eq t (codes "RW") then Some read_and_write else None))

abbrev pub access_in : Value → Option Access
access_in v = option_and_then access_named (text_in v.kind)

abbrev pub greatest_badge : ℕ
greatest_badge = 268435455

-- 1 to 9 decimal digits, zeros in front allowed
abbrev pub is_badge_text : List ℕ → Bool
is_badge_text t = (nat_le 1 (length t) && nat_le (length t) 9) && list_all is_digit t

abbrev pub badge_named : List ℕ → Option ℕ
badge_named t = if is_badge_text t then within 0 greatest_badge (digits_value 10 t) else None

abbrev pub badge_kind : ValueKind → Option ℕ
badge_kind (Number n) = within 0 greatest_badge n
badge_kind (Text t) = badge_named t
badge_kind _ = None

abbrev pub badge_in : Value → Option ℕ
badge_in v = badge_kind v.kind

-- the whole pages of a number of bytes that memory may have
abbrev pub sized : ℕ → Option ℕ
sized n = option_map whole_pages (within 1 268435456 n)

abbrev pub size_in : Value → Option ℕ
size_in v = option_and_then sized (number_in v.kind)

-- the address of a device's registers of so many bytes
abbrev pub placed : ℕ → ℕ → Option ℕ
placed bytes n = if n % page == 0 && nat_le (n + bytes) (2 ^ 48) then Some n else None

abbrev pub paddr_in : ℕ → Value → Option ℕ
paddr_in bytes v = option_and_then (placed bytes) (number_in v.kind)

abbrev pub irq_in : Value → Option ℕ
irq_in v = number_within 0 1023 v
